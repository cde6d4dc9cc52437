-- Whole lists of tokens: where one is a script, and where none is.
use Rattle.std.proofs.Common.{◌≡◌, ◌==◌, Bool, false, List, [], ◌∷◌, length, refl, Option, Some, None}
use Rattle.std.specs.Option.{option_map}
use Rattle.gv_base.specs.declared.refusal.Place.{Place}
use Rattle.gv_lex.specs.declared.token.Token.{Token}
use Rattle.gv_tree.specs.declared.top.Script.{Script}
use Rattle.gv_tree.specs.declared.top.Top.{Top}
use Rattle.gv_grammar.specs.Scripts.{AreTops, IsScript}
use Rattle.gv_grammar.proofs.Scripts.{tops_once}

pub none_deep : {place : Option Place} (found : Option Token) → place ≡ option_map (λ (t : Token). t.place) found → place ≡ None → found ≡ None
none_deep None p q = refl
none_deep (Some t) p q = cc

pub some_left : (b : Bool) (ts : List Token) → b ≡ false → b ≡ (length ts == 0) → ts ≡ [] → ⊥
some_left b [] p q e = cc
some_left b (t ∷ ts) p q e = cc

-- what leaves tokens isn't the script, and nothing else is
pub no_script : {tokens rest : List Token} {xs : List Top} → AreTops tokens xs tokens rest → (rest ≡ [] → ⊥) → (s : Script) → IsScript s tokens → ⊥
no_script {tokens = tokens} d f s e = let a = tops_once tokens d e in f (a.rest)
