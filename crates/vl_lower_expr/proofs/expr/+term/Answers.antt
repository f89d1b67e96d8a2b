use Rattle.std.specs.Prelude.{◌≡◌, ℕ, suc, ◌+◌, ◌*◌, ◌^◌, ◌≤◌, Bool, ◌&&◌, not, ◌==◌, max}
use Rattle.std.specs.Prelude.{Option, Some, None, IsSome, is_some, is_none, bit_and, bit_or, if◌then◌else◌}
use Rattle.std.specs.Prelude.{List, [], ◌∷◌, ◌++◌, length, take, drop, ℤ, nat_abs}
use Rattle.std.proofs.Common.{refl, ap, sym, ◌∙◌, subst, true≢false, arith, rules}
use Rattle.std.proofs.lemmas.List.{take_all}
use Rattle.fv_text.specs.declared.pos.Pos.{Pos}
use Rattle.fv_bits.specs.Bits.{bit, extended, as_int, joined, complement, negative}
use Rattle.vl_tree.specs.declared.expr.Select.{Select}
use Rattle.vl_tree.specs.declared.operator.BinaryOperator.{BinaryOperator}
use Rattle.vl_tree.specs.declared.operator.BinaryOperator.TheVariants as b
use Rattle.vl_tree.specs.declared.operator.UnaryOperator.{UnaryOperator}
use Rattle.vl_tree.specs.declared.operator.UnaryOperator.TheVariants as u
use Rattle.vl_tree.specs.Expr.{Expr, Exprs, Selects, exprs, depth, exprs_depth, selects_depth, number, name, paren}
use Rattle.vl_tree.specs.Expr.{unary}
use Rattle.vl_tree.specs.Expr.{binary, conditional, concat, repeat, cast, whole, indexed}
use Rattle.vl_tree.specs.Expr.{bit as bit_of, part as part_of}
use Rattle.vl_tree.specs.ExprView.{selects, with_select}
use Rattle.vl_tree.specs.ExprView.{shown as shown_expr}
use Rattle.vl_size.specs.declared.decl.Decl.{Decl}
use Rattle.vl_size.specs.Sign.{sign}
use Rattle.vl_size.specs.Size.{◌>>=◌, Operand, size, sizes, or_none, some_bits, within, value, own, is_true, no_names}
use Rattle.vl_size.specs.Size.{unary_number, binary_number, arithmetic, shifted, compared, tested, reduced, operand_of}
use Rattle.vl_size.specs.Size.{is_constant, operation_size, concatenated, copies, times, with_size, index_of, bit_at}
use Rattle.vl_size.specs.Size.{bits_from, offset_of, start_of, vector_size, word_size, vector_value, word_value}
use Rattle.vl_size.specs.Size.{memory_word}
use Rattle.vl_size.specs.Table.{declared_as}
use Rattle.vl_size.proofs.Rest.{part_depth}
use Rattle.wn_net.specs.Net.{width_at, value_at}
use Rattle.wn_net.proofs.Laws.{adds_on, node_on}
use Rattle.vl_lower_expr.specs.Bound.{bound}
use Rattle.vl_lower_expr.proofs.Compose.{shown, lowered, lowered_as, lowered_where, lowered_at, lowered_there}
use Rattle.vl_lower_expr.proofs.Compose.{lowered_one}
use Rattle.vl_lower_expr.proofs.Compose.{lowered_two, lowered_three, lowered_then, bound_after, bit_is_one, bits_and}
use Rattle.vl_lower_expr.proofs.Compose.{bits_or}
use Rattle.vl_lower_expr.proofs.Compose.{cell_node, vector_place, vector_has, memory_there}
use Rattle.vl_lower_expr.proofs.Sized.{some_first, some_second, some_third, is_or_none, bits_some, with_bits}
use Rattle.vl_lower_expr.proofs.Sized.{divided_constant}
use Rattle.vl_lower_expr.proofs.Sized.{start_sized, is_width, repeated_bits, is_repeated, no_select, only_select}
use Rattle.vl_lower_expr.proofs.Sized.{vector_sized}
use Rattle.vl_lower_expr.proofs.Sized.{memory_sized, vector_is, memory_is}
use Rattle.vl_lower_expr.proofs.Parts.{split_at, take_next, at_next, is_next, first_is, more_bits, more_number}
use Rattle.vl_lower_expr.proofs.Parts.{times_is}
use Rattle.vl_lower_expr.proofs.expr.+term.Goals as goal

here : Pos
here = record { file = 0; line = 0; col = 0 }

reduces : (op : UnaryOperator) (w : ℕ) (s : Bool) (x : Operand) → (op ≡ u.Plus → ⊥) → (op ≡ u.Minus → ⊥)
    → (op ≡ u.BitwiseNot → ⊥) → extended 1 w s (bit (reduced op x.size (own x))) ≡ unary_number op w s x
reduces u.Plus w s x a b c = absurd (a refl)
reduces u.Minus w s x a b c = absurd (b refl)
reduces u.BitwiseNot w s x a b c = absurd (c refl)
reduces op w s x a b c = refl

-- ---- by itself

pub own-returns : goal.own-returns
own-returns t c =
    let names = bound c.args.names in
    let e = c.args.expr.now in
    let w = ap or_none (sym c.in-Some.is ∙ c.self_size.ensures.value) in
    let s = c.sign_of-signed.ensures in
    lowered_at names _ _ _ _ _ _ _ c.in_ok-term.ensures w (λ g v i. value names.decls v (w i) (s i) e)

pub truth-returns : goal.truth-returns
truth-returns t c =
    lowered_one (bound c.args.names) _ _ _ _ (λ z. 1) _ (λ z x. bit (not (x == 0))) _ _ c.in_ok-node.ensures
    c.in_ok-is_some.ensures.adds c.in_ok-is_some.ensures.shows

pub changed-returns : goal.changed-returns
changed-returns t c =
    let kind = c.args.kind in
    lowered_one (bound c.args.names) _ _ _ _ (λ z. kind.width) _ (λ z x. extended z kind.width kind.signed x) _ _
    c.in_ok-node.ensures c.in_ok-fit.ensures.adds c.in_ok-fit.ensures.shows

-- ---- a choice

pub choice-mux-requires-clause-cond : goal.choice-mux-requires-clause-cond
choice-mux-requires-clause-cond t c =
    node_on _ _ _ _ (adds_on _ _ _ c.in_ok-yes.ensures.adds c.in_ok-no.ensures.adds) c.in_ok-test.ensures.node

pub choice-returns : goal.choice-returns
choice-returns t c =
    let names = bound c.args.names in
    let ds = names.decls in
    let kind = c.args.kind in
    lowered_as names _ _ _ _ _ _
    (lowered_three names _ _ _ _ _ _ _ _ _ _ _ (λ x y z. if x == 1 then y else z) _ _ _ _ c.requires.bound
    c.in_ok-test.ensures c.in_ok-yes.ensures c.in_ok-no.ensures c.in_ok-mux.ensures.built.adds
    (shown _ _ _ _ _ _ c.in_ok-mux.ensures.built))
    (λ g v. bit_is_one (is_true (operand_of ds v c.args.condition.now))
    (value ds v kind.width kind.signed c.args.first.now) (value ds v kind.width kind.signed c.args.second.now))

-- ---- operators

pub unary-returns-in_ok-negative-in-Minus : goal.unary-returns-in_ok-negative-in-Minus
unary-returns-in_ok-negative-in-Minus t c =
    let names = bound c.args.names in
    let kind = c.args.kind in
    lowered_as names _ _ _ _ _ _
    (lowered_one names _ _ _ _ (λ z. z) _ (λ z x. negative z x) _ _ c.in_ok-node-in-Minus.ensures
    c.in_ok-negative-in-Minus.ensures.adds c.in_ok-negative-in-Minus.ensures.shows)
    (λ g v i. unary_number (sym c.in-Minus.is i) kind.width kind.signed (operand_of names.decls v c.args.operand.now))

pub unary-returns-in_ok-not-in-BitwiseNot : goal.unary-returns-in_ok-not-in-BitwiseNot
unary-returns-in_ok-not-in-BitwiseNot t c =
    let names = bound c.args.names in
    let kind = c.args.kind in
    let built = c.in_ok-not-in-BitwiseNot.ensures.built in
    lowered_as names _ _ _ _ _ _
    (lowered_one names _ _ _ _ (λ z. z) _ (λ z x. complement z x) _ _ c.in_ok-node-in-BitwiseNot.ensures built.adds
    (shown _ _ _ _ _ _ built))
    (λ g v i. unary_number (sym c.in-BitwiseNot.is i) kind.width kind.signed
    (operand_of names.decls v c.args.operand.now))

pub unary-returns-in_ok-reduction-in_default : goal.unary-returns-in_ok-reduction-in_default
unary-returns-in_ok-reduction-in_default t c =
    let names = bound c.args.names in
    let kind = c.args.kind in
    lowered_as names _ _ _ _ _ _ c.in_ok-reduction-in_default.ensures
    (λ g v. reduces c.args.operator kind.width kind.signed (operand_of names.decls v c.args.operand.now)
    c.in_default.not-Plus c.in_default.not-Minus c.in_default.not-BitwiseNot)

pub reduction-returns : goal.reduction-returns
reduction-returns t c =
    let names = bound c.args.names in
    let kind = c.args.kind in
    lowered_one names _ _ _ _ (λ z. kind.width) _ (λ z x. extended z kind.width kind.signed x) _ _
    (lowered_one names _ _ _ _ (λ z. 1) _ (λ z x. bit (reduced c.args.operator z x)) _ _ c.in_ok-node.ensures
    c.in_ok-bit.ensures.adds c.in_ok-bit.ensures.shows)
    c.in_ok-fit.ensures.adds c.in_ok-fit.ensures.shows

pub binary-returns-in_ok-arithmetic-in-Larger : goal.binary-returns-in_ok-arithmetic-in-Larger
binary-returns-in_ok-arithmetic-in-Larger t c =
    let names = bound c.args.names in
    let kind = c.args.kind in
    let op = c.args.operator in
    let e = sym c.in-Larger.is ∙ c.way_of.ensures in
    lowered_as names _ _ _ _ _ _
    (lowered_two names _ _ _ _ _ _ (λ p q. p) _ _ (λ p q x y. arithmetic op p kind.signed x y) _ _ _ c.requires.bound
    c.in_ok-a-in-Larger.ensures c.in_ok-b-in-Larger.ensures c.in_ok-arithmetic-in-Larger.ensures.adds
    (c.in_ok-arithmetic-in-Larger.ensures.shows kind.signed))
    (λ g v i. binary_number (e i) op kind.width kind.signed (operand_of names.decls v c.args.left.now)
    (operand_of names.decls v c.args.right.now))

pub binary-returns-in_ok-shifted-in-Left : goal.binary-returns-in_ok-shifted-in-Left
binary-returns-in_ok-shifted-in-Left t c =
    let names = bound c.args.names in
    let kind = c.args.kind in
    let op = c.args.operator in
    let e = sym c.in-Left.is ∙ c.way_of.ensures in
    lowered_as names _ _ _ _ _ _
    (lowered_two names _ _ _ _ _ _ (λ p q. p) _ _ (λ p q x y. shifted op p kind.signed x y) _ _ _ c.requires.bound
    c.in_ok-a-in-Left.ensures c.in_ok-b-in-Left.ensures c.in_ok-shifted-in-Left.ensures.adds
    c.in_ok-shifted-in-Left.ensures.shows)
    (λ g v i. binary_number (e i) op kind.width kind.signed (operand_of names.decls v c.args.left.now)
    (operand_of names.decls v c.args.right.now))

pub binary-returns-in_ok-fit-in-One : goal.binary-returns-in_ok-fit-in-One
binary-returns-in_ok-fit-in-One t c =
    let names = bound c.args.names in
    let kind = c.args.kind in
    let op = c.args.operator in
    let e = sym c.in-One.is ∙ c.way_of.ensures in
    lowered_as names _ _ _ _ _ _
    (lowered_one names _ _ _ _ (λ z. kind.width) _ (λ z x. extended z kind.width kind.signed x) _ _
    c.in_ok-bit-in-One.ensures c.in_ok-fit-in-One.ensures.adds c.in_ok-fit-in-One.ensures.shows)
    (λ g v i. binary_number (e i) op kind.width kind.signed (operand_of names.decls v c.args.left.now)
    (operand_of names.decls v c.args.right.now))

pub both-returns : goal.both-returns
both-returns t c =
    let names = bound c.args.names in
    lowered_as names _ _ _ _ _ _
    (lowered_two names _ _ _ _ _ _ (λ p q. p) _ _ (λ p q x y. bit_and x y) _ _ _ c.requires.bound c.in_ok-a.ensures
    c.in_ok-b.ensures c.in_ok-and.ensures.built.adds (shown _ _ _ _ _ _ c.in_ok-and.ensures.built))
    (λ g v. bits_and _ _)

pub either-returns : goal.either-returns
either-returns t c =
    let names = bound c.args.names in
    lowered_as names _ _ _ _ _ _
    (lowered_two names _ _ _ _ _ _ (λ p q. p) _ _ (λ p q x y. bit_or x y) _ _ _ c.requires.bound c.in_ok-a.ensures
    c.in_ok-b.ensures c.in_ok-or.ensures.built.adds (shown _ _ _ _ _ _ c.in_ok-or.ensures.built))
    (λ g v. bits_or _ _)

pub comparison-returns : goal.comparison-returns
comparison-returns t c =
    let names = bound c.args.names in
    let op = c.args.operator in
    let kind = c.common_type-kind.result in
    let w = c.common_type-kind.ensures.width in
    let s = c.common_type-kind.ensures.signed in
    lowered_as names _ _ _ _ _ _
    (lowered_two names _ _ _ _ _ _ (λ p q. 1) _ _ (λ p q x y. bit (compared op p kind.signed x y)) _ _ _
    c.requires.bound c.in_ok-a.ensures c.in_ok-b.ensures c.in_ok-compared.ensures.adds c.in_ok-compared.ensures.shows)
    (λ g v i. bit (compared op (w i) (s i) (value names.decls v (w i) (s i) c.args.left.now)
    (value names.decls v (w i) (s i) c.args.right.now)))

-- ---- what is asked of a second operand

pub choice-term-requires : goal.choice-term-requires
choice-term-requires t c =
    let names = bound c.args.names in
    (omega arith, (bound_after names _ _ _ _ _ c.in_ok-test.ensures c.requires.bound, c.requires.first))

pub choice-term-requires-2 : goal.choice-term-requires-2
choice-term-requires-2 t c =
    let names = bound c.args.names in (
      omega arith,
      (
        bound_after names _ _ _ _ _ c.in_ok-yes.ensures (bound_after names _ _ _ _ _ c.in_ok-test.ensures
            c.requires.bound),
        c.requires.second,
      ),
    )

pub binary-term-requires-in-Larger : goal.binary-term-requires-in-Larger
binary-term-requires-in-Larger t c = (
  omega arith,
  (bound_after (bound c.args.names) _ _ _ _ _ c.in_ok-a-in-Larger.ensures c.requires.bound, c.requires.right),
)

pub binary-own-requires : goal.binary-own-requires
binary-own-requires t c = (
  omega arith,
  (bound_after (bound c.args.names) _ _ _ _ _ c.in_ok-a-in-Left.ensures c.requires.bound, c.requires.right),
)

pub both-truth-requires-2 : goal.both-truth-requires-2
both-truth-requires-2 t c =
    (omega arith, (bound_after (bound c.args.names) _ _ _ _ _ c.in_ok-a.ensures c.requires.bound, c.requires.right))

pub either-truth-requires-2 : goal.either-truth-requires-2
either-truth-requires-2 t c =
    (omega arith, (bound_after (bound c.args.names) _ _ _ _ _ c.in_ok-a.ensures c.requires.bound, c.requires.right))

pub comparison-term-requires-2 : goal.comparison-term-requires-2
comparison-term-requires-2 t c =
    (omega arith, (bound_after (bound c.args.names) _ _ _ _ _ c.in_ok-a.ensures c.requires.bound, c.requires.right))

-- ---- concatenations

pub behind-concat-requires-clause-few : goal.behind-concat-requires-clause-few
behind-concat-requires-clause-few t c =
    let front = c.in_ok-node.ensures.adds.keeps.widths c.args.front c.requires.front in
    omega (arith, c.requires.few, front, c.in_ok-node.ensures.node.1)

pub behind-returns : goal.behind-returns
behind-returns t c =
    let names = bound c.args.names in
    let net = c.args.net.now in
    let built = c.in_ok-concat.ensures.built in
    lowered_two names _ _ _ _ _ _ (λ p q. p + q) _ _ (λ p q x y. joined q x y) _ _ _ c.requires.bound
    (lowered_there names net (width_at net c.args.front) c.args.front (c.requires.front, refl)) c.in_ok-node.ensures
    built.adds (shown _ _ _ _ _ _ built)

add_zero : (k : ℕ) → k ≡ 0 + k
add_zero k = omega arith

zero_first : (x k : ℕ) → x ≡ 0 * 2 ^ k + x
zero_first x k = omega arith

both_some : (ds : List Decl) (d : Decl) (i : Expr) (ss : Selects) → IsSome (size ds i >>= λ k. vector_size ds d ss)
    → IsSome (size ds i >>= λ k. vector_size ds d ss >>= λ n. Some n)
both_some ds d i ss h = by (size ds i) (vector_size ds d ss) h
  where
    by : (o q : Option ℕ) → IsSome (o >>= λ k. q) → IsSome (o >>= λ k. q >>= λ n. Some n)
    by None q h = h
    by (Some k) None h = h
    by (Some k) (Some n) h = refl

no_parts : (ds : List Decl) (es : List Expr) → length es ≡ 0 → IsSome (some_bits (sizes ds (exprs es))) → ⊥
no_parts ds [] h some = true≢false (sym some)
no_parts ds (e ∷ es) h some = omega (arith, h)

pub concatenated-unreachable-requires : goal.concatenated-unreachable-requires
concatenated-unreachable-requires t c =
    no_parts c.args.names.decls.now c.args.all.now c.in_default.ensures.cases c.requires.sized

pub concatenated-own-requires : goal.concatenated-own-requires
concatenated-own-requires t c =
    let ds = c.args.names.decls.now in
    let e = c.in-Some.first.now in
    let rest = exprs c.in-Some.rest.now in
    let all = ap exprs c.in-Some.ensures.cases.0 in
    let P : Exprs → Type 0 = λ es. IsSome (sizes ds es) in
    let sized = subst P all (bits_some (sizes ds (exprs c.args.all.now)) c.requires.sized) in (
      omega (arith, ap exprs_depth all),
      (c.requires.bound, some_first (size ds e) (λ m. sizes ds rest >>= λ n. within (m + n)) sized),
    )

pub concatenated-loop-part-init : goal.concatenated-loop-part-init
concatenated-loop-part-init t c =
    let names = bound c.args.names in
    let ds = names.decls in
    let e = c.in-Some.first.now in
    let cases = c.in-Some.ensures.cases.0 in
    let whole = is_or_none (sizes ds (exprs c.args.all.now)) (bits_some (sizes ds (exprs c.args.all.now))
    c.requires.sized) in
    let next = first_is ds e c.in-Some.rest.now _ (ap (λ es. sizes ds (exprs es)) (sym cases) ∙ whole) in
    let one : e ∷ [] ≡ take 1 c.args.all.now = ap (take 1) (sym cases) in
    lowered_at names _ _ _ _ _ _ _ c.in_ok-front.ensures
    (add_zero (or_none (size ds e)) ∙ more_bits ds [] e next ∙ ap (λ es. or_none (sizes ds (exprs es))) one)
    (λ g v. zero_first (own (operand_of ds v e)) (or_none (size ds e)) ∙ more_number ds v [] e next
    ∙ ap (λ es. concatenated ds v (exprs es)) one)

pub concatenated-behind-requires : goal.concatenated-behind-requires
concatenated-behind-requires t c =
    let names = bound c.args.names in
    let ds = names.decls in
    let all = c.args.all.now in
    let e = c.part-item.result in
    let i = c.loop-part.part-index in
    let inv = c.loop-part.invariant in
    let cases = c.in-Some.ensures.cases.0 in
    let at = at_next all c.in-Some.rest.now c.in-Some.first.now e i cases (omega arith) c.part-item.is in
    let whole = is_or_none (sizes ds (exprs all)) (bits_some (sizes ds (exprs all)) c.requires.sized) in
    let next = is_next ds (take (suc i) all) (drop (suc (suc i)) all) e _
    (ap (λ es. sizes ds (exprs es)) (sym (split_at all (suc i) e at.0 at.1)) ∙ whole) in
    let few : width_at c.loop-part.net c.loop-part.front + or_none (size ds e) ≤ 128 =
    omega (arith, inv.node.1, ap or_none next.front_is, ap or_none next.size_is, next.few) in (
      omega (arith, part_depth all (suc i) e at.0 at.1),
      (bound_after names _ _ _ _ _ inv c.requires.bound, (inv.node.0, (ap is_some next.size_is, few))),
    )

pub concatenated-loop-part-preserved : goal.concatenated-loop-part-preserved
concatenated-loop-part-preserved t c =
    let names = bound c.args.names in
    let ds = names.decls in
    let all = c.args.all.now in
    let e = c.part-item.result in
    let i = c.loop-part.part-index in
    let inv = c.loop-part.invariant in
    let cases = c.in-Some.ensures.cases.0 in
    let at = at_next all c.in-Some.rest.now c.in-Some.first.now e i cases (omega arith) c.part-item.is in
    let whole = is_or_none (sizes ds (exprs all)) (bits_some (sizes ds (exprs all)) c.requires.sized) in
    let next = is_next ds (take (suc i) all) (drop (suc (suc i)) all) e _
    (ap (λ es. sizes ds (exprs es)) (sym (split_at all (suc i) e at.0 at.1)) ∙ whole) in
    let step : suc (suc i) ≡ suc (i + 1) = omega arith in
    let more : take (suc i) all ++ e ∷ [] ≡ take (suc (i + 1)) all =
    take_next all (suc i) e at.0 at.1 ∙ ap (λ n. take n all) step in
    let k = or_none (size ds e) in
    lowered_at names _ _ _ _ _ _ _
    (lowered_then names _ _ _ _ _ _ (λ v p x. x * 2 ^ k + own (operand_of ds v e)) _ _ c.requires.bound inv
    c.in_ok-front-2.ensures)
    (ap (λ w. w + k) inv.node.1 ∙ more_bits ds (take (suc i) all) e next
    ∙ ap (λ es. or_none (sizes ds (exprs es))) more)
    (λ g v. more_number ds v (take (suc i) all) e next ∙ ap (λ es. concatenated ds v (exprs es)) more)

pub concatenated-returns : goal.concatenated-returns
concatenated-returns t c =
    let names = bound c.args.names in
    let ds = names.decls in
    let all = c.args.all.now in
    let long = c.in-Some.ensures.cases.1 in
    let end : take (suc c.loop-part.part-index) all ≡ all =
    take_all (suc c.loop-part.part-index) all (omega (arith, long)) in
    lowered_at names _ _ _ _ _ _ _ c.loop-part.invariant (ap (λ es. or_none (sizes ds (exprs es))) end)
    (λ g v. ap (λ es. concatenated ds v (exprs es)) end)

pub joined-returns : goal.joined-returns
joined-returns t c =
    let names = bound c.args.names in
    let ds = names.decls in
    let kind = c.args.kind in
    let es = exprs c.args.all.now in
    lowered_as names _ _ _ _ _ _
    (lowered_one names _ _ _ _ (λ z. kind.width) _ (λ z x. extended z kind.width kind.signed x) _ _ c.in_ok-node.ensures
    c.in_ok-fit.ensures.adds c.in_ok-fit.ensures.shows)
    (λ g v. with_bits (sizes ds es) (λ m. extended m kind.width kind.signed (concatenated ds v es)) c.requires.sized)

pub repeated-concatenated-requires : goal.repeated-concatenated-requires
repeated-concatenated-requires t c = (
  omega arith,
  (
    c.requires.bound,
    repeated_bits c.args.names.decls.now here c.args.count.now (exprs c.args.all.now) (c.requires.sized here),
  ),
)

pub repeated-count_of-count-requires-clause-constant : goal.repeated-count_of-count-requires-clause-constant
repeated-count_of-count-requires-clause-constant t c =
    (is_repeated c.args.names.decls.now here c.args.count.now (exprs c.args.all.now) (c.requires.sized here)).constant

pub repeated-count_of-count-requires-clause-sized : goal.repeated-count_of-count-requires-clause-sized
repeated-count_of-count-requires-clause-sized t c = λ v.
    let ds = c.args.names.decls.now in
    let h = is_repeated ds here c.args.count.now (exprs c.args.all.now) (c.requires.sized here) in
    subst (λ z. IsSome (times (index_of (operand_of ds v c.args.count.now)) z))
    (sym (c.width.ensures.value ∙ c.in_ok-node.ensures.node.1)) (h.sized v)

pub repeated-returns : goal.repeated-returns
repeated-returns t c =
    let names = bound c.args.names in
    let ds = names.decls in
    let kind = c.args.kind in
    let es = exprs c.args.all.now in
    let size = or_none (sizes ds es) in
    let count = c.count_of-count.result in
    let bits = repeated_bits ds here c.args.count.now es (c.requires.sized here) in
    let wide = c.in_ok-node.ensures.node.1 in
    let few : count * size ≤ 128 =
    subst (λ z. count * z ≤ 128) (c.width.ensures.value ∙ wide) c.count_of-count.ensures.few in
    lowered_as names _ _ _ _ _ _
    (lowered_one names _ _ _ _ (λ z. kind.width) _ (λ z x. extended z kind.width kind.signed x) _ _
    (lowered_one names _ _ _ _ (λ z. count * z) _ (λ z x. copies count z x) _ _ c.in_ok-node.ensures
    c.in_ok-whole.ensures.adds c.in_ok-whole.ensures.shows)
    c.in_ok-fit.ensures.adds c.in_ok-fit.ensures.shows)
    (λ g v.
    let F : ℤ → ℕ → ℕ =
    λ n k. with_size (times n k) (λ m. extended m kind.width kind.signed (copies (nat_abs n) k
    (concatenated ds v es))) in
    ap (λ o. with_size o (λ m. extended m kind.width kind.signed (copies count size (concatenated ds v es))))
    (sym (times_is count size c.count_of-count.ensures.some few))
    ∙ ap (λ n. F n size) (sym (c.count_of-count.ensures.value v))
    ∙ with_bits (sizes ds es) (F (index_of (operand_of ds v c.args.count.now))) bits)

-- ---- each kind of expression

pub term-returns-in_ok-literal-in-Number : goal.term-returns-in_ok-literal-in-Number
term-returns-in_ok-literal-in-Number t c =
    let names = bound c.args.names in
    let kind = c.args.kind in
    let pos = c.expr.inside.pos in
    let whole : number pos c.in-Number.value ≡ c.args.expr.now =
    ap (shown_expr pos) (sym c.in-Number.is) ∙ c.expr.view_is in
    lowered names _ _ _ _ _ _ c.in_ok-literal-in-Number.ensures.adds c.in_ok-literal-in-Number.ensures.shows
    (λ g v given has. ap (value names.decls v kind.width kind.signed) whole)

pub term-returns-in_ok-named-in-Name : goal.term-returns-in_ok-named-in-Name
term-returns-in_ok-named-in-Name t c =
    let names = bound c.args.names in
    let kind = c.args.kind in
    let pos = c.expr.inside.pos in
    let whole : name pos c.in-Name.text (selects c.as_slice.result.now) ≡ c.args.expr.now =
    ap (λ ss. name pos c.in-Name.text (selects ss)) c.as_slice.ensures ∙ ap (shown_expr pos) (sym c.in-Name.is)
    ∙ c.expr.view_is in
    lowered_as names _ _ _ _ _ _ c.in_ok-named-in-Name.ensures (λ g v. ap
    (value names.decls v kind.width kind.signed) whole)

pub term-returns-in_ok-term-in-Paren : goal.term-returns-in_ok-term-in-Paren
term-returns-in_ok-term-in-Paren t c =
    let names = bound c.args.names in
    let kind = c.args.kind in
    let pos = c.expr.inside.pos in
    let inner : c.deref.result.now ≡ c.in-Paren.inner.value = search rules in
    let whole : paren pos c.deref.result.now ≡ c.args.expr.now =
    ap (paren pos) inner ∙ ap (shown_expr pos) (sym c.in-Paren.is) ∙ c.expr.view_is in
    lowered_as names _ _ _ _ _ _ c.in_ok-term-in-Paren.ensures (λ g v. ap
    (value names.decls v kind.width kind.signed) whole)

pub term-returns-in_ok-unary-in-Unary : goal.term-returns-in_ok-unary-in-Unary
term-returns-in_ok-unary-in-Unary t c =
    let names = bound c.args.names in
    let kind = c.args.kind in
    let pos = c.expr.inside.pos in
    let inner : c.deref-in-Unary.result.now ≡ c.in-Unary.operand.value = search rules in
    let whole : unary pos c.in-Unary.operator c.deref-in-Unary.result.now ≡ c.args.expr.now =
    ap (unary pos c.in-Unary.operator) inner ∙ ap (shown_expr pos) (sym c.in-Unary.is) ∙ c.expr.view_is in
    lowered_as names _ _ _ _ _ _ c.in_ok-unary-in-Unary.ensures (λ g v. ap
    (value names.decls v kind.width kind.signed) whole)

pub term-returns-in_ok-binary-in-Binary : goal.term-returns-in_ok-binary-in-Binary
term-returns-in_ok-binary-in-Binary t c =
    let names = bound c.args.names in
    let kind = c.args.kind in
    let pos = c.expr.inside.pos in
    let left : c.deref-in-Binary.result.now ≡ c.in-Binary.left.value = search rules in
    let right : c.deref-in-Binary-2.result.now ≡ c.in-Binary.right.value = search rules in
    let whole : binary pos c.in-Binary.operator c.deref-in-Binary.result.now c.deref-in-Binary-2.result.now
    ≡ c.args.expr.now =
    (λ i. binary pos c.in-Binary.operator (left i) (right i)) ∙ ap (shown_expr pos) (sym c.in-Binary.is)
    ∙ c.expr.view_is in
    lowered_as names _ _ _ _ _ _ c.in_ok-binary-in-Binary.ensures (λ g v. ap
    (value names.decls v kind.width kind.signed) whole)

pub term-returns-in_ok-choice-in-Conditional : goal.term-returns-in_ok-choice-in-Conditional
term-returns-in_ok-choice-in-Conditional t c =
    let names = bound c.args.names in
    let kind = c.args.kind in
    let pos = c.expr.inside.pos in
    let test : c.deref-in-Conditional.result.now ≡ c.in-Conditional.condition.value = search rules in
    let first : c.deref-in-Conditional-2.result.now ≡ c.in-Conditional.first.value = search rules in
    let second : c.deref-in-Conditional-3.result.now ≡ c.in-Conditional.second.value = search rules in
    let whole : conditional pos c.deref-in-Conditional.result.now c.deref-in-Conditional-2.result.now
    c.deref-in-Conditional-3.result.now ≡ c.args.expr.now =
    (λ i. conditional pos (test i) (first i) (second i)) ∙ ap (shown_expr pos) (sym c.in-Conditional.is)
    ∙ c.expr.view_is in
    lowered_as names _ _ _ _ _ _ c.in_ok-choice-in-Conditional.ensures (λ g v. ap
    (value names.decls v kind.width kind.signed) whole)

pub term-returns-in_ok-joined-in-Concat : goal.term-returns-in_ok-joined-in-Concat
term-returns-in_ok-joined-in-Concat t c =
    let names = bound c.args.names in
    let kind = c.args.kind in
    let pos = c.expr.inside.pos in
    let whole : concat pos (exprs c.as_slice-in-Concat.result.now) ≡ c.args.expr.now =
    ap (λ es. concat pos (exprs es)) c.as_slice-in-Concat.ensures ∙ ap (shown_expr pos) (sym c.in-Concat.is)
    ∙ c.expr.view_is in
    lowered_as names _ _ _ _ _ _ c.in_ok-joined-in-Concat.ensures (λ g v. ap
    (value names.decls v kind.width kind.signed) whole)

pub term-returns-in_ok-repeated-in-Repeat : goal.term-returns-in_ok-repeated-in-Repeat
term-returns-in_ok-repeated-in-Repeat t c =
    let names = bound c.args.names in
    let kind = c.args.kind in
    let pos = c.expr.inside.pos in
    let count : c.deref-in-Repeat.result.now ≡ c.in-Repeat.count.value = search rules in
    let whole : repeat pos c.deref-in-Repeat.result.now (exprs c.as_slice-in-Repeat.result.now) ≡ c.args.expr.now =
    (λ i. repeat pos (count i) (exprs (c.as_slice-in-Repeat.ensures i))) ∙ ap (shown_expr pos) (sym c.in-Repeat.is)
    ∙ c.expr.view_is in
    lowered_as names _ _ _ _ _ _ c.in_ok-repeated-in-Repeat.ensures (λ g v. ap
    (value names.decls v kind.width kind.signed) whole)

pub term-returns-in_ok-changed-in-Cast : goal.term-returns-in_ok-changed-in-Cast
term-returns-in_ok-changed-in-Cast t c =
    let names = bound c.args.names in
    let kind = c.args.kind in
    let pos = c.expr.inside.pos in
    let inner : c.deref-in-Cast.result.now ≡ c.in-Cast.operand.value = search rules in
    let whole : cast pos c.in-Cast.field-0 c.deref-in-Cast.result.now ≡ c.args.expr.now =
    ap (cast pos c.in-Cast.field-0) inner ∙ ap (shown_expr pos) (sym c.in-Cast.is) ∙ c.expr.view_is in
    lowered_as names _ _ _ _ _ _ c.in_ok-changed-in-Cast.ensures (λ g v. ap
    (value names.decls v kind.width kind.signed) whole)

pub term-constant_node-requires : goal.term-constant_node-requires
term-constant_node-requires t c =
    let ds = c.args.names.decls.now in
    let pos = c.expr.inside.pos in
    let op = c.in-Binary.operator in
    let whole : binary pos op c.in-Binary.left.value c.in-Binary.right.value ≡ c.args.expr.now =
    ap (shown_expr pos) (sym c.in-Binary.is) ∙ c.expr.view_is in
    let P : Expr → Type 0 = λ e. IsSome (size ds e) in
    sym (ap is_constant whole)
    ∙ divided_constant ds pos op c.in-Binary.left.value c.in-Binary.right.value (sym c.divides.ensures ∙
    c.if-divides.true)
    (subst P (sym whole) c.requires.sized)

pub term-returns-then-divides : goal.term-returns-then-divides
term-returns-then-divides t c =
    let ds = c.args.names.decls.now in
    let made = c.in_ok-constant_node-in-Binary.ensures in
    record {
      adds = made.adds;
      node = (made.shows ds no_names).node;
      value = λ g v given has. (made.shows ds v).value g given;
    }

pub term-binary-requires : goal.term-binary-requires
term-binary-requires t c =
    let ds = c.args.names.decls.now in
    let pos = c.expr.inside.pos in
    let op = c.in-Binary.operator in
    let left : c.deref-in-Binary.result.now ≡ c.in-Binary.left.value = search rules in
    let right : c.deref-in-Binary-2.result.now ≡ c.in-Binary.right.value = search rules in
    let whole : binary pos c.in-Binary.operator c.deref-in-Binary.result.now c.deref-in-Binary-2.result.now
    ≡ c.args.expr.now =
    (λ i. binary pos c.in-Binary.operator (left i) (right i)) ∙ ap (shown_expr pos) (sym c.in-Binary.is)
    ∙ c.expr.view_is in
    let x = c.deref-in-Binary.result.now in
    let y = c.deref-in-Binary-2.result.now in
    let P : Expr → Type 0 = λ e. IsSome (size ds e) in
    let sized : IsSome (size ds (binary pos op x y)) = subst P (sym whole) c.requires.sized in
    let last : ℕ → ℕ → Option ℕ = λ m n. operation_size op m n (is_constant x && is_constant y) in (
      omega (arith, ap depth whole),
      (
        c.requires.bound,
        (
          some_first (size ds x) (λ m. size ds y >>= λ n. last m n) sized,
          (some_second (size ds x) (size ds y) last sized, sym c.divides.ensures ∙ c.if-divides.false),
        ),
      ),
    )

pub term-choice-requires : goal.term-choice-requires
term-choice-requires t c =
    let ds = c.args.names.decls.now in
    let pos = c.expr.inside.pos in
    let test : c.deref-in-Conditional.result.now ≡ c.in-Conditional.condition.value = search rules in
    let first : c.deref-in-Conditional-2.result.now ≡ c.in-Conditional.first.value = search rules in
    let second : c.deref-in-Conditional-3.result.now ≡ c.in-Conditional.second.value = search rules in
    let whole : conditional pos c.deref-in-Conditional.result.now c.deref-in-Conditional-2.result.now
    c.deref-in-Conditional-3.result.now ≡ c.args.expr.now =
    (λ i. conditional pos (test i) (first i) (second i)) ∙ ap (shown_expr pos) (sym c.in-Conditional.is)
    ∙ c.expr.view_is in
    let q = c.deref-in-Conditional.result.now in
    let x = c.deref-in-Conditional-2.result.now in
    let y = c.deref-in-Conditional-3.result.now in
    let P : Expr → Type 0 = λ e. IsSome (size ds e) in
    let sized : IsSome (size ds (conditional pos q x y)) = subst P (sym whole) c.requires.sized in (
      omega (arith, ap depth whole),
      (
        c.requires.bound,
        (
          some_first (size ds q) (λ k. size ds x >>= λ m. size ds y >>= λ n. Some (max m n)) sized,
          (
            some_second (size ds q) (size ds x) (λ k m. size ds y >>= λ n. Some (max m n)) sized,
            some_third (size ds q) (size ds x) (size ds y) (λ k m n. Some (max m n)) sized,
          ),
        ),
      ),
    )

pub term-repeated-requires : goal.term-repeated-requires
term-repeated-requires t c =
    let ds = c.args.names.decls.now in
    let pos = c.expr.inside.pos in
    let count : c.deref-in-Repeat.result.now ≡ c.in-Repeat.count.value = search rules in
    let whole : repeat pos c.deref-in-Repeat.result.now (exprs c.as_slice-in-Repeat.result.now) ≡ c.args.expr.now =
    (λ i. repeat pos (count i) (exprs (c.as_slice-in-Repeat.ensures i))) ∙ ap (shown_expr pos) (sym c.in-Repeat.is)
    ∙ c.expr.view_is in
    let P : Expr → Type 0 = λ e. IsSome (size ds e) in
    (omega (arith, ap depth whole), (c.requires.bound, λ p. subst P (sym whole) c.requires.sized))

-- ---- the rest of the operators

pub unary-returns-in_ok-term-in-Plus : goal.unary-returns-in_ok-term-in-Plus
unary-returns-in_ok-term-in-Plus t c =
    let names = bound c.args.names in
    let kind = c.args.kind in
    lowered_as names _ _ _ _ _ _ c.in_ok-term-in-Plus.ensures
    (λ g v i. unary_number (sym c.in-Plus.is i) kind.width kind.signed (operand_of names.decls v c.args.operand.now))

compares : (op : BinaryOperator) (x y : Operand) → (op ≡ b.LogicalAnd → ⊥) → (op ≡ b.LogicalOr → ⊥)
    → (let w = max x.size y.size in let s = x.sign && y.sign in compared op w s (x.at w s) (y.at w s)) ≡ tested op x y
compares b.LogicalAnd x y first second = absurd (first refl)
compares b.LogicalOr x y first second = absurd (second refl)
compares op x y first second = refl

pub tested-returns-in_ok-both-in-LogicalAnd : goal.tested-returns-in_ok-both-in-LogicalAnd
tested-returns-in_ok-both-in-LogicalAnd t c =
    let names = bound c.args.names in
    lowered_as names _ _ _ _ _ _ c.in_ok-both-in-LogicalAnd.ensures
    (λ g v i. bit (tested (sym c.in-LogicalAnd.is i) (operand_of names.decls v c.args.left.now)
    (operand_of names.decls v c.args.right.now)))

pub tested-returns-in_ok-either-in-LogicalOr : goal.tested-returns-in_ok-either-in-LogicalOr
tested-returns-in_ok-either-in-LogicalOr t c =
    let names = bound c.args.names in
    lowered_as names _ _ _ _ _ _ c.in_ok-either-in-LogicalOr.ensures
    (λ g v i. bit (tested (sym c.in-LogicalOr.is i) (operand_of names.decls v c.args.left.now)
    (operand_of names.decls v c.args.right.now)))

pub tested-returns-in_ok-comparison-in_default : goal.tested-returns-in_ok-comparison-in_default
tested-returns-in_ok-comparison-in_default t c =
    let names = bound c.args.names in
    lowered_as names _ _ _ _ _ _ c.in_ok-comparison-in_default.ensures
    (λ g v. ap bit (compares c.args.operator (operand_of names.decls v c.args.left.now)
    (operand_of names.decls v c.args.right.now) c.in_default.not-LogicalAnd c.in_default.not-LogicalOr))

-- ---- names

pub named-found-place-requires-clause-declared : goal.named-found-place-requires-clause-declared
named-found-place-requires-clause-declared t c =
    let ds = c.args.names.decls.now in
    some_first (declared_as ds c.args.text.now)
    (λ d. if is_none d.words then vector_size ds d (selects c.args.all.now) else word_size ds d (selects
    c.args.all.now))
    (c.requires.sized here)

pub named-bounds-names-at : goal.named-bounds-names-at
named-bounds-names-at t c =
    let names = c.args.names in
    let d = c.found-place.result.0.now in
    let own = c.requires.bound.placed d c.found-place.result.1 c.found-place.ensures.place in
    let fits = vector_place c.args.net.now names.cells.now d c.found-place.result.1 c.in-Vector.at own.fits
    c.in-Vector.is in
    (cell_node c.args.net.now names.cells.now d.width c.in-Vector.at fits.1).0

pub named-offset_bounds-names-at : goal.named-offset_bounds-names-at
named-offset_bounds-names-at t c =
    let names = c.args.names in
    let d = c.found-place.result.0.now in
    let own = c.requires.bound.placed d c.found-place.result.1 c.found-place.ensures.place in
    let fits = vector_place c.args.net.now names.cells.now d c.found-place.result.1 c.in-Vector.at own.fits
    c.in-Vector.is in
    let below = (cell_node c.args.net.now names.cells.now d.width c.in-Vector.at fits.1).0 in
    omega (arith, below, c.ranges.names.1)

pub named-selected-requires : goal.named-selected-requires
named-selected-requires t c =
    let names = c.args.names in
    let d = c.found-place.result.0.now in
    let own = c.requires.bound.placed d c.found-place.result.1 c.found-place.ensures.place in
    let fits = vector_place c.args.net.now names.cells.now d c.found-place.result.1 c.in-Vector.at own.fits
    c.in-Vector.is in (
      omega arith,
      (
        c.requires.bound,
        (
          (cell_node c.args.net.now names.cells.now d.width c.in-Vector.at fits.1).1,
          (
            own.kept,
            (
              own.shaped,
              vector_sized names.decls.now c.args.text.now d (selects c.args.all.now) c.found-place.ensures.declared
                  fits.0 (c.requires.sized here),
            ),
          ),
        ),
      ),
    )

pub named-word-requires : goal.named-word-requires
named-word-requires t c =
    let names = c.args.names in
    let d = c.found-place.result.0.now in
    let own = c.requires.bound.placed d c.found-place.result.1 c.found-place.ensures.place in
    let some = memory_there c.args.net.now names.cells.now d c.found-place.result.1 own.fits
    c.in_default.not-Vector in (
      omega arith,
      (
        c.requires.bound,
        (
          c.found-place.ensures.place,
          (
            some,
            memory_sized names.decls.now c.args.text.now d (selects c.args.all.now) c.found-place.ensures.declared some
                (c.requires.sized here),
          ),
        ),
      ),
    )

pub named-returns-in_ok-selected-in-Vector : goal.named-returns-in_ok-selected-in-Vector
named-returns-in_ok-selected-in-Vector t c =
    let names = bound c.args.names in
    let ds = names.decls in
    let kind = c.args.kind in
    let ss = selects c.args.all.now in
    let d = c.found-place.result.0.now in
    let at = c.found-place.ensures.place in
    let own = c.requires.bound.placed d c.found-place.result.1 at in
    let fits = vector_place c.args.net.now names.cells d c.found-place.result.1 c.in-Vector.at own.fits
    c.in-Vector.is in
    lowered_where names _ _ _ _ _ _ c.in_ok-selected-in-Vector.ensures (λ g v has.
    let here : ℕ → ℕ = λ x. vector_value ds v kind.width kind.signed d x ss in
    ap here (sym (vector_has c.args.net.now g v names.cells d c.found-place.result.1 c.in-Vector.at
    (has d c.found-place.result.1 at) c.in-Vector.is))
    ∙ vector_is ds c.args.text.now d (λ d. vector_value ds v kind.width kind.signed d (v d.name None) ss)
    (λ d. word_value ds v kind.width kind.signed d ss) c.found-place.ensures.declared fits.0)

pub named-returns-in_ok-word-in_default : goal.named-returns-in_ok-word-in_default
named-returns-in_ok-word-in_default t c =
    let names = bound c.args.names in
    let ds = names.decls in
    let kind = c.args.kind in
    let ss = selects c.args.all.now in
    let d = c.found-place.result.0.now in
    let own = c.requires.bound.placed d c.found-place.result.1 c.found-place.ensures.place in
    let some = memory_there c.args.net.now names.cells d c.found-place.result.1 own.fits c.in_default.not-Vector in
    lowered_as names _ _ _ _ _ _ c.in_ok-word-in_default.ensures (λ g v.
    memory_is ds c.args.text.now d (λ d. vector_value ds v kind.width kind.signed d (v d.name None) ss)
    (λ d. word_value ds v kind.width kind.signed d ss) c.found-place.ensures.declared some)

no_words : (ds : List Decl) (d : Decl) (ss : List Select) → length ss ≡ 0 → IsSome (word_size ds d (selects ss)) → ⊥
no_words ds d [] h some = true≢false (sym some)
no_words ds d (x ∷ ss) h some = omega (arith, h)

pub word-unreachable-requires : goal.word-unreachable-requires
word-unreachable-requires t c =
    no_words c.args.names.decls.now c.args.decl.now c.args.all.now c.in_default.ensures.cases c.requires.sized

pub word-unreachable-requires-in-Part : goal.word-unreachable-requires-in-Part
word-unreachable-requires-in-Part t c =
    let ds = c.args.names.decls.now in
    let d = c.args.decl.now in
    true≢false (sym c.requires.sized
    ∙ ap (λ ss. is_some (word_size ds d (selects ss))) c.in-Some.ensures.cases.0
    ∙ ap (λ x. is_some (word_size ds d (with_select x (selects c.in-Some.others.now)))) c.in-Part.is)

pub word-unreachable-requires-in-Indexed : goal.word-unreachable-requires-in-Indexed
word-unreachable-requires-in-Indexed t c =
    let ds = c.args.names.decls.now in
    let d = c.args.decl.now in
    true≢false (sym c.requires.sized
    ∙ ap (λ ss. is_some (word_size ds d (selects ss))) c.in-Some.ensures.cases.0
    ∙ ap (λ x. is_some (word_size ds d (with_select x (selects c.in-Some.others.now)))) c.in-Indexed.is)

pub word-own-requires : goal.word-own-requires
word-own-requires t c =
    let ds = c.args.names.decls.now in
    let d = c.args.decl.now in
    let inner : c.deref.result.now ≡ c.in-Bit.index.value = search rules in
    let i = c.deref.result.now in
    let rest = selects c.in-Some.others.now in
    let all : selects c.args.all.now ≡ bit_of c.in-Bit.field-0 i rest =
    ap selects c.in-Some.ensures.cases.0 ∙ ap (λ x. with_select x rest) c.in-Bit.is
    ∙ ap (λ e. bit_of c.in-Bit.field-0 e rest) (sym inner) in
    let P : Selects → Type 0 = λ ss. IsSome (word_size ds d ss) in (
      omega (arith, ap selects_depth all),
      (c.requires.bound, some_first (size ds i) (λ k. vector_size ds d rest) (subst P all c.requires.sized)),
    )

pub word-word_at-requires-clause-bound : goal.word-word_at-requires-clause-bound
word-word_at-requires-clause-bound t c =
    bound_after (bound c.args.names) _ _ _ _ _ c.in_ok-node-in-Bit.ensures c.requires.bound

pub word-selected-requires : goal.word-selected-requires
word-selected-requires t c =
    let ds = c.args.names.decls.now in
    let names = bound c.args.names in
    let d = c.args.decl.now in
    let inner : c.deref.result.now ≡ c.in-Bit.index.value = search rules in
    let i = c.deref.result.now in
    let rest = selects c.in-Some.others.now in
    let own = c.requires.bound.placed d c.args.place c.requires.place in
    let all : selects c.args.all.now ≡ bit_of c.in-Bit.field-0 i rest =
    ap selects c.in-Some.ensures.cases.0 ∙ ap (λ x. with_select x rest) c.in-Bit.is
    ∙ ap (λ e. bit_of c.in-Bit.field-0 e rest) (sym inner) in
    let P : Selects → Type 0 = λ ss. IsSome (word_size ds d ss) in
    let before = bound_after names _ _ _ _ _ c.in_ok-node-in-Bit.ensures c.requires.bound in (
      omega (arith, ap selects_depth all),
      (
        bound_after names _ _ _ _ _ c.in_ok-word-in-Bit.ensures before,
        (
          c.in_ok-word-in-Bit.ensures.node,
          (
            own.kept,
            (
              own.shaped,
              some_second (size ds i) (vector_size ds d rest) (λ k n. Some n) (both_some ds d i rest
                  (subst P all c.requires.sized)),
            ),
          ),
        ),
      ),
    )

pub word-returns : goal.word-returns
word-returns t c =
    let names = bound c.args.names in
    let ds = names.decls in
    let kind = c.args.kind in
    let d = c.args.decl.now in
    let inner : c.deref.result.now ≡ c.in-Bit.index.value = search rules in
    let again : c.deref-in-Bit.result.now ≡ c.in-Bit.index.value = search rules in
    let i = c.deref.result.now in
    let rest = selects c.in-Some.others.now in
    let signed = c.sign_of-signed.result in
    let sign_is : signed ≡ sign ds i = c.sign_of-signed.ensures ∙ ap (sign ds) (again ∙ sym inner) in
    let all : selects c.args.all.now ≡ bit_of c.in-Bit.field-0 i rest =
    ap selects c.in-Some.ensures.cases.0 ∙ ap (λ x. with_select x rest) c.in-Bit.is
    ∙ ap (λ e. bit_of c.in-Bit.field-0 e rest) (sym inner) in
    lowered_as names _ _ _ _ _ _
    (lowered_then names _ _ _ _ _ _ (λ v p x. vector_value ds v kind.width kind.signed d x rest) _ _ c.requires.bound
    (lowered_then names _ _ _ _ _ _ (λ v p x. memory_word v d d.words (as_int p signed x)) _ _ c.requires.bound
    c.in_ok-node-in-Bit.ensures c.in_ok-word-in-Bit.ensures) c.in_ok-selected-in-Bit.ensures)
    (λ g v.
    (λ j. vector_value ds v kind.width kind.signed d
    (memory_word v d d.words (as_int (or_none (size ds i)) (sign_is j) (own (operand_of ds v i)))) rest)
    ∙ ap (word_value ds v kind.width kind.signed d) (sym all))

-- ---- selects

pub selected-returns-in_ok-fit-in-None : goal.selected-returns-in_ok-fit-in-None
selected-returns-in_ok-fit-in-None t c =
    let names = bound c.args.names in
    let ds = names.decls in
    let kind = c.args.kind in
    let d = c.args.decl.now in
    let net = c.args.net.now in
    let none = no_select c.args.all.now c.in-None.ensures.cases in
    lowered names _ _ _ _ _ _ c.in_ok-fit-in-None.ensures.adds c.in_ok-fit-in-None.ensures.shows
    (λ g v given has.
    (λ j. extended (c.requires.vector.1 j) kind.width kind.signed (value_at net g c.args.vector))
    ∙ ap (vector_value ds v kind.width kind.signed d (value_at net g c.args.vector)) (sym none))

pub selected-one_select-requires : goal.selected-one_select-requires
selected-one_select-requires t c =
    let ds = c.args.names.decls.now in
    let d = c.args.decl.now in
    let x = c.in-Some.select.now in
    let P : List Select → Type 0 = λ ss. IsSome (vector_size ds d (selects ss)) in
    let sized = subst P c.in-Some.ensures.cases.0 c.requires.sized in
    let only = only_select ds d x c.in-Some._behind.now sized in
    let Q : Selects → Type 0 = λ ss. IsSome (vector_size ds d ss) in (
      omega (arith, ap selects_depth only, ap (λ ss. selects_depth (selects ss)) c.in-Some.ensures.cases.0),
      (c.requires.bound, (c.requires.vector, (c.requires.kept, (c.requires.shaped, subst Q only sized)))),
    )

pub selected-returns-in_ok-one_select-in-Some : goal.selected-returns-in_ok-one_select-in-Some
selected-returns-in_ok-one_select-in-Some t c =
    let names = bound c.args.names in
    let ds = names.decls in
    let kind = c.args.kind in
    let d = c.args.decl.now in
    let net = c.args.net.now in
    let x = c.in-Some.select.now in
    let P : List Select → Type 0 = λ ss. IsSome (vector_size ds d (selects ss)) in
    let sized = subst P c.in-Some.ensures.cases.0 c.requires.sized in
    let all = ap selects c.in-Some.ensures.cases.0 ∙ only_select ds d x c.in-Some._behind.now sized in
    lowered_as names _ _ _ _ _ _ c.in_ok-one_select-in-Some.ensures
    (λ g v. ap (vector_value ds v kind.width kind.signed d (value_at net g c.args.vector)) (sym all))

pub one_select-returns-in_ok-bit_select-in-Bit : goal.one_select-returns-in_ok-bit_select-in-Bit
one_select-returns-in_ok-bit_select-in-Bit t c =
    let names = bound c.args.names in
    let kind = c.args.kind in
    let d = c.args.decl.now in
    let inner : c.deref.result.now ≡ c.in-Bit.index.value = search rules in
    let all : with_select c.args.select.now whole ≡ bit_of c.in-Bit.field-0 c.deref.result.now whole =
    ap (λ x. with_select x whole) c.in-Bit.is ∙ ap (λ e. bit_of c.in-Bit.field-0 e whole) (sym inner) in
    lowered_as names _ _ _ _ _ _ c.in_ok-bit_select-in-Bit.ensures
    (λ g v. ap (vector_value names.decls v kind.width kind.signed d (value_at c.args.net.now g c.args.vector))
    (sym all))

pub one_select-part_select-requires-clause-sized : goal.one_select-part_select-requires-clause-sized
one_select-part_select-requires-clause-sized t c =
    let ds = c.args.names.decls.now in
    let left : c.deref-in-Part.result.now ≡ c.in-Part.left.value = search rules in
    let right : c.deref-in-Part-2.result.now ≡ c.in-Part.right.value = search rules in
    let all : with_select c.args.select.now whole
    ≡ part_of c.in-Part.field-0 c.deref-in-Part.result.now c.deref-in-Part-2.result.now whole =
    ap (λ x. with_select x whole) c.in-Part.is ∙ (λ i. part_of c.in-Part.field-0 (sym left i) (sym right i) whole) in
    let P : Selects → Type 0 = λ ss. IsSome (vector_size ds c.args.decl.now ss) in
    λ p. subst P all c.requires.sized

pub one_select-returns-in_ok-part_select-in-Part : goal.one_select-returns-in_ok-part_select-in-Part
one_select-returns-in_ok-part_select-in-Part t c =
    let names = bound c.args.names in
    let ds = names.decls in
    let kind = c.args.kind in
    let d = c.args.decl.now in
    let left : c.deref-in-Part.result.now ≡ c.in-Part.left.value = search rules in
    let right : c.deref-in-Part-2.result.now ≡ c.in-Part.right.value = search rules in
    let all : with_select c.args.select.now whole
    ≡ part_of c.in-Part.field-0 c.deref-in-Part.result.now c.deref-in-Part-2.result.now whole =
    ap (λ x. with_select x whole) c.in-Part.is ∙ (λ i. part_of c.in-Part.field-0 (sym left i) (sym right i) whole) in
    let made = c.in_ok-part_select-in-Part.ensures in
    record {
      adds = made.adds;
      node = (made.shows here no_names).node;
      value = λ g v given has.
          (made.shows c.in-Part.field-0 v).value g given
          ∙ ap (vector_value ds v kind.width kind.signed d (value_at c.args.net.now g c.args.vector)) (sym all);
    }

pub one_select-indexed_select-requires : goal.one_select-indexed_select-requires
one_select-indexed_select-requires t c =
    let ds = c.args.names.decls.now in
    let start : c.deref-in-Indexed.result.now ≡ c.in-Indexed.start.value = search rules in
    let count : c.deref-in-Indexed-2.result.now ≡ c.in-Indexed.count.value = search rules in
    let all : with_select c.args.select.now whole
    ≡ indexed c.in-Indexed.field-0 c.deref-in-Indexed.result.now c.deref-in-Indexed-2.result.now whole =
    ap (λ x. with_select x whole) c.in-Indexed.is
    ∙ (λ i. indexed c.in-Indexed.field-0 (sym start i) (sym count i) whole) in
    let P : Selects → Type 0 = λ ss. IsSome (vector_size ds c.args.decl.now ss) in (
      omega (arith, ap selects_depth all),
      (
        c.requires.bound,
        (
          c.requires.vector,
          (
            c.requires.kept,
            (
              c.requires.shaped,
              λ p. subst P all c.requires.sized,
            ),
          ),
        ),
      ),
    )

pub one_select-returns-in_ok-indexed_select-in-Indexed : goal.one_select-returns-in_ok-indexed_select-in-Indexed
one_select-returns-in_ok-indexed_select-in-Indexed t c =
    let names = bound c.args.names in
    let kind = c.args.kind in
    let d = c.args.decl.now in
    let start : c.deref-in-Indexed.result.now ≡ c.in-Indexed.start.value = search rules in
    let count : c.deref-in-Indexed-2.result.now ≡ c.in-Indexed.count.value = search rules in
    let all : with_select c.args.select.now whole
    ≡ indexed c.in-Indexed.field-0 c.deref-in-Indexed.result.now c.deref-in-Indexed-2.result.now whole =
    ap (λ x. with_select x whole) c.in-Indexed.is
    ∙ (λ i. indexed c.in-Indexed.field-0 (sym start i) (sym count i) whole) in
    lowered_as names _ _ _ _ _ _ c.in_ok-indexed_select-in-Indexed.ensures
    (λ g v. ap (vector_value names.decls v kind.width kind.signed d (value_at c.args.net.now g c.args.vector))
    (sym all))

pub indexed_select-own-requires : goal.indexed_select-own-requires
indexed_select-own-requires t c = (
  omega arith,
  (
    c.requires.bound,
    start_sized c.args.names.decls.now c.args.decl.now here c.args.start.now c.args.count.now (c.requires.sized here),
  ),
)

pub indexed_select-count_of-count-requires-clause-constant : goal.indexed_select-count_of-count-requires-clause-constant
indexed_select-count_of-count-requires-clause-constant t c =
    (is_width c.args.names.decls.now c.args.decl.now here c.args.start.now c.args.count.now
    (c.requires.sized here)).constant

pub indexed_select-count_of-count-requires-clause-sized : goal.indexed_select-count_of-count-requires-clause-sized
indexed_select-count_of-count-requires-clause-sized t c =
    (is_width c.args.names.decls.now c.args.decl.now here c.args.start.now c.args.count.now
    (c.requires.sized here)).sized

pub bit_select-returns : goal.bit_select-returns
bit_select-returns t c =
    let names = bound c.args.names in
    let ds = names.decls in
    let kind = c.args.kind in
    let d = c.args.decl.now in
    let net = c.args.net.now in
    let signed = c.sign_of-signed.result in
    let i = c.args.index.now in
    lowered_as names _ _ _ _ _ _
    (lowered_one names _ _ _ _ (λ z. kind.width) _ (λ z x. extended z kind.width kind.signed x) _ _
    (lowered_two names _ _ _ _ _ _ (λ p q. 1) _ _ (λ p q x y. bit_at d.width x (offset_of d (as_int q signed y))) _ _ _
    c.requires.bound (lowered_there names net d.width c.args.vector c.requires.vector) c.in_ok-node.ensures
    c.in_ok-bit.ensures.adds c.in_ok-bit.ensures.shows)
    c.in_ok-fit.ensures.adds c.in_ok-fit.ensures.shows)
    (λ g v j. extended 1 kind.width kind.signed (bit_at d.width (value_at net g c.args.vector)
    (offset_of d (as_int (or_none (size ds i)) (c.sign_of-signed.ensures j) (own (operand_of ds v i))))))

pub indexed_select-returns : goal.indexed_select-returns
indexed_select-returns t c =
    let names = bound c.args.names in
    let ds = names.decls in
    let kind = c.args.kind in
    let d = c.args.decl.now in
    let net = c.args.net.now in
    let signed = c.sign_of-signed.result in
    let i = c.args.start.now in
    let count = c.count_of-count.result in
    lowered_as names _ _ _ _ _ _
    (lowered_one names _ _ _ _ (λ z. kind.width) _ (λ z x. extended z kind.width kind.signed x) _ _
    (lowered_two names _ _ _ _ _ _ (λ p q. count) _ _
    (λ p q x y. bits_from count d.width x (start_of d (as_int q signed y) count)) _ _ _
    c.requires.bound (lowered_there names net d.width c.args.vector c.requires.vector) c.in_ok-node.ensures
    c.in_ok-part.ensures.adds c.in_ok-part.ensures.shows)
    c.in_ok-fit.ensures.adds c.in_ok-fit.ensures.shows)
    (λ g v j.
    let k = nat_abs (sym (c.count_of-count.ensures.value v) j) in
    extended k kind.width kind.signed (bits_from k d.width (value_at net g c.args.vector)
    (start_of d (as_int (or_none (size ds i)) (c.sign_of-signed.ensures j) (own (operand_of ds v i))) k)))
