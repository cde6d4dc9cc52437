-- Each name stays where it is when others are put behind.
use Rattle.std.proofs.Common.{◌≡◌, ◌∙◌, refl, ap, ℕ, List, [], ◌∷◌, Some, codes}
use Rattle.gv_base.specs.Names.{name_of, with_name}
use Rattle.gv_classes.proofs.Texts.{name_of-with_name}
use Rattle.gv_declare.specs.Known.{AreKnown, texts, with_names}
use Rattle.gv_declare.specs.declared.known.Known.{Known}

-- with more put behind, one by one
all_stay : (names : List (List ℕ)) (more : List (List ℕ)) (text : List ℕ) (name : ℕ) → name_of names text ≡ Some name → name_of (with_names names more) text ≡ Some name
all_stay names [] text name e = e
all_stay names (other ∷ more) text name e = all_stay (with_name names other) more text name (name_of-with_name names other text name e)

-- a table that is what more makes of another one has the other one's names
later : (old : List (List ℕ)) {new : List (List ℕ)} (more : List (List ℕ)) (text : List ℕ) {name : ℕ} → new ≡ with_names old more → name_of old text ≡ Some name → name_of new text ≡ Some name
later old more text {name = name} e h = rw e (all_stay old more text name h)

-- what is put into a table, and then more into that
behind : (old : List (List ℕ)) {new last : List (List ℕ)} (text : List ℕ) (more : List (List ℕ)) → new ≡ with_name old text → last ≡ with_names new more → last ≡ with_names old (text ∷ more)
behind old text more e h = h ∙ ap (λ (t : List (List ℕ)). with_names t more) e

-- the texts behind each
abbrev after_script : List (List ℕ)
after_script = codes "GroovyInterceptable" ∷ []

abbrev after_boolean : List (List ℕ)
after_boolean = codes "Script" ∷ after_script

abbrev after_long : List (List ℕ)
after_long = codes "Boolean" ∷ after_boolean

abbrev after_integer : List (List ℕ)
after_integer = codes "Long" ∷ after_long

abbrev after_object : List (List ℕ)
after_object = codes "Integer" ∷ after_integer

-- names that were put into a table in turn
pub all_known : (k : Known) (t0 : List (List ℕ)) {t1 t2 t3 t4 t5 t6 : List (List ℕ)}
    → t1 ≡ with_name t0 (codes "Object")
    → t2 ≡ with_name t1 (codes "Integer")
    → t3 ≡ with_name t2 (codes "Long")
    → t4 ≡ with_name t3 (codes "Boolean")
    → t5 ≡ with_name t4 (codes "Script")
    → t6 ≡ with_name t5 (codes "GroovyInterceptable")
    → name_of t1 (codes "Object") ≡ Some k.object
    → name_of t2 (codes "Integer") ≡ Some k.integer
    → name_of t3 (codes "Long") ≡ Some k.long
    → name_of t4 (codes "Boolean") ≡ Some k.boolean
    → name_of t5 (codes "Script") ≡ Some k.script
    → name_of t6 (codes "GroovyInterceptable") ≡ Some k.interceptable
    → (t6 ≡ with_names t0 texts) × AreKnown t6 k
all_known k t0 {t1 = t1} {t2 = t2} {t3 = t3} {t4 = t4} {t5 = t5} {t6 = t6} e1 e2 e3 e4 e5 e6 object integer long boolean script interceptable =
    let h5 : t6 ≡ with_names t5 after_script = behind t5 (codes "GroovyInterceptable") [] e6 refl in
    let h4 : t6 ≡ with_names t4 after_boolean = behind t4 (codes "Script") after_script e5 h5 in
    let h3 : t6 ≡ with_names t3 after_long = behind t3 (codes "Boolean") after_boolean e4 h4 in
    let h2 : t6 ≡ with_names t2 after_integer = behind t2 (codes "Long") after_long e3 h3 in
    let h1 : t6 ≡ with_names t1 after_object = behind t1 (codes "Integer") after_integer e2 h2 in
    let h0 : t6 ≡ with_names t0 texts = behind t0 (codes "Object") after_object e1 h1 in (
      h0,
      record {
        object = later t1 after_object (codes "Object") h1 object;
        integer = later t2 after_integer (codes "Integer") h2 integer;
        long = later t3 after_long (codes "Long") h3 long;
        boolean = later t4 after_boolean (codes "Boolean") h4 boolean;
        script = later t5 after_script (codes "Script") h5 script;
        interceptable = interceptable;
      },
    )
