use Rattle.std.proofs.Common.{◌≡◌, ◌⊎◌, inl, inr, refl, rules}
use Rattle.std.proofs.lemmas.Result.{on_ok_weaker}
use mir.Val.{to_z, of_z}
use mir.Syntax.{w32, w64}
use Rattle.gv_spelling.specs.Table.{Text}
use Rattle.gv_spelling.specs.declared.kinds.Keyword.{Keyword}
use Rattle.gv_spelling.specs.declared.kinds.Lexeme.{Lexeme}
use Rattle.gv_spelling.specs.declared.kinds.Lexeme.TheVariants as lexeme
use Rattle.gv_spelling.specs.declared.kinds.RefusedWord.{RefusedWord}
use Rattle.gv_lex.specs.Lexing.{State, act_between, as_word, puts_word}
use Rattle.gv_lex.specs.Steps.{state_of}
use Rattle.gv_lex.proofs.lexer.Lexer.between.Goals as goal

pub returns-in-LineEnd-clause-follows : goal.returns-in-LineEnd-clause-follows
returns-in-LineEnd-clause-follows c = rw c.in-LineEnd.is (on_ok_weaker c.put.result (λ put later keeps. put later tt) c.put.ensures)

pub returns-in-Int-clause-follows : goal.returns-in-Int-clause-follows
returns-in-Int-clause-follows c =
    let e : to_z w32 (of_z w32 c.in-Int.value) ≡ c.in-Int.value = search rules in
    rw c.in-Int.is (on_ok_weaker c.put-in-Int.result (λ put later keeps. rw e at (put later tt)) c.put-in-Int.ensures)

pub returns-in-Long-clause-follows : goal.returns-in-Long-clause-follows
returns-in-Long-clause-follows c =
    let e : to_z w64 (of_z w64 c.in-Long.value) ≡ c.in-Long.value = search rules in
    rw c.in-Long.is (on_ok_weaker c.put-in-Long.result (λ put later keeps. rw e at (put later tt)) c.put-in-Long.ensures)

pub returns-in-Symbol-clause-follows : goal.returns-in-Symbol-clause-follows
returns-in-Symbol-clause-follows c = rw c.in-Symbol.is (on_ok_weaker c.symbol.result (λ put later keeps. put later) c.symbol.ensures)

pub returns-in-Open-clause-follows : goal.returns-in-Open-clause-follows
returns-in-Open-clause-follows c = rw c.in-Open.is (λ later keeps. c.begin_text.ensures later)

pub returns-in-Fault-clause-follows : goal.returns-in-Fault-clause-follows
returns-in-Fault-clause-follows c = rw (c.in-Fault.is) (λ later keeps. rw c.fault_refusal.ensures at (c.refuse.ensures later))

act_word : (s : State) (text : Text) (what : Lexeme) → (what ≡ lexeme.Name) ⊎ (((k : Keyword) × (what ≡ lexeme.Keyword k)) ⊎ ((r : RefusedWord) × (what ≡ lexeme.RefusedWord r)))
    → puts_word s text (as_word text what) ≡ act_between s text what
act_word s text what h = elim h [ inl e ↦ rw e refl | inr other ↦ elim other [ inl k ↦ rw k.1 refl | inr r ↦ rw r.1 refl ] ]

pub returns-in-Name-clause-follows : goal.returns-in-Name-clause-follows
returns-in-Name-clause-follows c =
    rw (c.as_word.ensures, act_word (state_of c.args.self.now) c.args.text.now c.args.what c.in-Name.is) at c.word.ensures.follows
