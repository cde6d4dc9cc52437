use Rattle.std.proofs.Common.{◌≡◌, suc, ◌+◌, ◌-◌, ◌*◌, ◌<◌, length, drop, true, false, ◌&&◌, ◌||◌, sym, ap, subst, arith, Some, None, inl, inr, refl, length-drop}
use Rattle.gv_tree.specs.declared.expr.Expr.TheVariants as expr
use Rattle.gv_grammar.specs.Phrases.{Longest}
use Rattle.gv_grammar.specs.Tokens.{kind_of, place_of, type_of, binary_of, level_of, typing_level, joins_once, typing_of}
use Rattle.gv_grammar.specs.Exprs.{IsBin, GoesBin}
use Rattle.gv_grammar.proofs.Lengths.{no_more, of_bin}
use Rattle.gv_grammar.proofs.LongerOperators as longer
use Rattle.gv_cursor.specs.Reading.{Reads}
use Rattle.gv_exprs.proofs.ResultsOperators as results
use Rattle.gv_exprs.proofs.ResultsOperators.{past, type_here}
use Rattle.gv_exprs.proofs.reader.Exprs.+binary.Goals as goal

pub binary-returns-then-level-eq0 : goal.binary-returns-then-level-eq0
binary-returns-then-level-eq0 g t c = rw c.if-level-eq0.true (results.reads_tightest c.args.self.now.all _ _ c.unary.result c.unary.ensures)

pub binary-binary-requires : goal.binary-binary-requires
binary-binary-requires g t c = λ κs w.
    let m : 32 * length c.args.tokens.now.rest.now + (c.args.level - 1) + 1 < t = omega arith in
    (m, (w, (c.requires.nests, c.requires.within)))

pub binary-binary_tail-requires : goal.binary-binary_tail-requires
binary-binary_tail-requires g t c = λ κs w.
    let a = no_more (of_bin c.args.self.now.all (c.in_ok-left.ensures.is)) in
    let m : 32 * length c.binary.new.tokens.rest.now + (c.args.level - 1) < t = omega arith in
    (m, (w, (c.requires.nests, (omega arith, omega arith))))

pub binary-returns : goal.binary-returns
binary-returns g t c =
    let h : c.args.level ≡ suc (c.args.level - 1) = omega arith in
    subst (λ n. Reads (IsBin c.args.self.now.all n) c.binary_tail.result c.args.tokens.now.rest.now c.binary_tail.new.tokens.rest.now) (sym h)
    (results.reads_bin c.args.self.now.all _ _ _ c.binary_tail.result (c.in_ok-left.ensures) c.binary_tail.ensures)

pub binary_tail-returns-then-level_of-tighter : goal.binary_tail-returns-then-level_of-tighter
binary_tail-returns-then-level_of-tighter g t c =
    let p : binary_of (kind_of c.args.tokens.now.rest.now) ≡ Some c.in-Some.op = cc in
    longer.bin_tail_other c.args.self.now.all p (inl (λ h. let a = c.if-level_of-tighter.true in let b = c.level_of.ensures in let d : c.level_of.result ≡ c.args.tighter + 1 = omega arith in absurd (a d)))

pub binary_tail-returns-then-is_barred : goal.binary_tail-returns-then-is_barred
binary_tail-returns-then-is_barred g t c = let p : binary_of (kind_of c.args.tokens.now.rest.now) ≡ Some c.in-Some.op = cc in longer.bin_tail_other c.args.self.now.all p (inr (cc))

pub binary_tail-returns-in-Err-Refused : goal.binary_tail-returns-in-Err-Refused
binary_tail-returns-in-Err-Refused g t c =
    let p : binary_of (kind_of c.args.tokens.now.rest.now) ≡ Some c.in-Some.op = cc in
    longer.bin_tail_refused c.args.self.now.all p (rw (← c.advance.ensures) (rw c.in-Err-Refused.field-0-is at (c.in-Err-Refused.ensures)))

pub binary_tail-binary-requires : goal.binary_tail-binary-requires
binary_tail-binary-requires g t c = λ κs w.
    let p : binary_of (kind_of c.args.tokens.now.rest.now) ≡ Some c.in-Some.op = cc in
    let a = past binary_of c.args.tokens.now.rest.now refl p in
    let b = ap length c.advance.ensures in
    let m : 32 * length c.advance.new.self.rest.now + c.args.tighter + 1 < t = omega arith in
    (m, (w, (c.requires.nests, omega arith)))

pub binary_tail-binary_tail-requires : goal.binary_tail-binary_tail-requires
binary_tail-binary_tail-requires g t c = λ κs w.
    let p : binary_of (kind_of c.args.tokens.now.rest.now) ≡ Some c.in-Some.op = cc in
    let a = past binary_of c.args.tokens.now.rest.now refl p in
    let b = ap length c.advance.ensures in
    let d = no_more (of_bin c.args.self.now.all (c.in-Ok.ensures.is)) in
    let m : 32 * length c.binary.new.tokens.rest.now + c.args.tighter < t = omega arith in
    (m, (w, (c.requires.nests, (omega arith, c.requires.level))))

pub binary_tail-returns-in_ok-new-in-Ok-2 : goal.binary_tail-returns-in_ok-new-in-Ok-2
binary_tail-returns-in_ok-new-in-Ok-2 g t c =
    let p : binary_of (kind_of c.args.tokens.now.rest.now) ≡ Some c.in-Some.op = cc in
    let q : level_of c.in-Some.op ≡ suc c.args.tighter = (let b = c.level_of.ensures in let d = c.if-level_of-tighter.false in omega arith) in
    let s : c.args.joined && joins_once c.in-Some.op ≡ false = cc in
    let l : Longest (IsBin c.args.self.now.all c.args.tighter) c.in-Ok.right (drop 1 c.args.tokens.now.rest.now) c.binary.new.tokens.rest.now = rw (← c.advance.ensures) (c.in-Ok.ensures) in
    let d : Reads (GoesBin c.args.self.now.all c.args.tighter (c.args.joined || joins_once c.in-Some.op) (expr.Binary (place_of c.args.tokens.now.rest.now) c.in-Some.op c.args.left c.in-Ok.right))
    c.binary_tail.result c.binary.new.tokens.rest.now c.binary_tail.new.tokens.rest.now =
    rw (← c.joined_by.ensures, ← c.place-place.ensures, ← (c.in_ok-new-in-Ok.ensures), ← (c.in_ok-new-in-Ok-2.ensures)) c.binary_tail.ensures in
    results.reads_operated c.args.self.now.all c.args.joined c.args.left _ _ _ c.binary_tail.result p q s l d

pub binary_tail-returns-in_default-typing_of : goal.binary_tail-returns-in_default-typing_of
binary_tail-returns-in_default-typing_of g t c =
    let p : binary_of (kind_of c.args.tokens.now.rest.now) ≡ None = cc in
    let q : typing_of (kind_of c.args.tokens.now.rest.now) ≡ None = cc in
    longer.bin_tail_ends c.args.self.now.all p q

pub binary_tail-returns-then-tighter-ne-TYPING_LEVEL : goal.binary_tail-returns-then-tighter-ne-TYPING_LEVEL
binary_tail-returns-then-tighter-ne-TYPING_LEVEL g t c =
    let p : typing_of (kind_of c.args.tokens.now.rest.now) ≡ Some c.in-Some-typing_of.op = cc in
    longer.bin_tail_no_typing c.args.self.now.all p (inl (λ h. let a = c.if-tighter-ne-TYPING_LEVEL.true in absurd (omega arith)))

pub binary_tail-returns-then-joined : goal.binary_tail-returns-then-joined
binary_tail-returns-then-joined g t c =
    let p : typing_of (kind_of c.args.tokens.now.rest.now) ≡ Some c.in-Some-typing_of.op = cc in
    longer.bin_tail_no_typing c.args.self.now.all p (inr c.if-joined.true)

pub binary_tail-returns-in_default-type_of : goal.binary_tail-returns-in_default-type_of
binary_tail-returns-in_default-type_of g t c =
    let p : typing_of (kind_of c.args.tokens.now.rest.now) ≡ Some c.in-Some-typing_of.op = cc in
    let q : type_of (place_of (drop 1 c.args.tokens.now.rest.now)) (kind_of (drop 1 c.args.tokens.now.rest.now)) ≡ None = type_here c.advance-2.ensures c.place.ensures c.kind-3.ensures c.type_of.ensures (c.in_default-type_of.is) in
    longer.bin_tail_no_type c.args.self.now.all p q

pub binary_tail-binary_tail-requires-2 : goal.binary_tail-binary_tail-requires-2
binary_tail-binary_tail-requires-2 g t c = λ κs w.
    let p : typing_of (kind_of c.args.tokens.now.rest.now) ≡ Some c.in-Some-typing_of.op = cc in
    let a = past typing_of c.args.tokens.now.rest.now refl p in
    let b = ap length c.advance-2.ensures in
    let d = ap length c.advance-3.ensures in
    let f = length-drop 1 c.advance-2.new.self.rest.now in
    let m : 32 * length c.advance-3.new.self.rest.now + c.args.tighter < t = omega arith in
    (m, (w, (c.requires.nests, (omega arith, c.requires.level))))

pub binary_tail-returns : goal.binary_tail-returns
binary_tail-returns g t c =
    let p : typing_of (kind_of c.args.tokens.now.rest.now) ≡ Some c.in-Some-typing_of.op = cc in
    let q : typing_level ≡ suc c.args.tighter = (let b = c.if-tighter-ne-TYPING_LEVEL.false in omega arith) in
    let s : type_of (place_of (drop 1 c.args.tokens.now.rest.now)) (kind_of (drop 1 c.args.tokens.now.rest.now)) ≡ Some c.in-Some-type_of.written = type_here c.advance-2.ensures c.place.ensures c.kind-3.ensures c.type_of.ensures (c.in-Some-type_of.is) in
    let d : Reads (GoesBin c.args.self.now.all c.args.tighter true (expr.Typed (place_of c.args.tokens.now.rest.now) c.in-Some-typing_of.op c.args.left c.in-Some-type_of.written))
    c.binary_tail-2.result (drop 1 (drop 1 c.args.tokens.now.rest.now)) c.binary_tail-2.new.tokens.rest.now =
    rw (← c.place-place.ensures, ← (c.in_ok-new.ensures), ← c.advance-2.ensures, ← c.advance-3.ensures) c.binary_tail-2.ensures in
    results.reads_typed c.args.self.now.all c.args.joined c.args.left _ _ c.binary_tail-2.result p q c.if-joined.false s d
