-- A walk whose steps aren't refused by themselves, and are few, isn't refused.
use Rattle.std.specs.Prelude.{◌≡◌, refl, ℕ, ◌+◌, ◌≤◌, List, [], ◌∷◌, ◌++◌, false, ◌||◌, nat_lt, None}
use Rattle.std.proofs.Common.{◌∙◌, true≢false, arith}
use Rattle.std.proofs.lemmas.Bool.Decides.{nat_tests}
use Rattle.vl_tree.specs.declared.source.Module.{Module}
use Rattle.vl_size.specs.declared.decl.Class.{Class}
use Rattle.vl_size.specs.declared.decl.Class.TheVariants as class
use Rattle.vl_size.specs.declared.decl.Decl.{Decl}
use Rattle.vl_mean.specs.Parts.{Part, declares, parts_of_steps, step_parts}
use Rattle.vl_mean.specs.Runs.{Each}
use Rattle.vl_mean.specs.Walk.{Step}
use Rattle.vl_elab_spec.specs.declared.elab_fault.ElabFault.TheVariants as f
use Rattle.vl_elab_spec.specs.Counts.{step_names, step_nodes}
use Rattle.vl_elab_spec.specs.Expressions.{refused_if}
use Rattle.vl_elab_spec.specs.Items.{step_refusals}
use Rattle.vl_elab_spec.specs.Meanings.{is_variable_class}
use Rattle.vl_elab_spec.specs.Refused.{Totals, class_bits, counted, first_refused, lowest, or_later}
use Rattle.vl_elab_spec.specs.Refused.{large_pos, state_bits}

pub each_both : {A : Type 0} (P : A → Type 0) (xs ys : List A) → Each P xs → Each P ys → Each P (xs ++ ys)
each_both P [] ys h k = k
each_both P (x ∷ xs) ys h k = (h.0, each_both P xs ys h.1 k)

-- ---- totals

abbrev pub all_nodes : List Step → ℕ
all_nodes [] = 0
all_nodes (x ∷ xs) = step_nodes x + all_nodes xs

abbrev pub all_names : List Step → ℕ
all_names [] = 0
all_names (x ∷ xs) = step_names x + all_names xs

pub nodes_both : (xs ys : List Step) → all_nodes (xs ++ ys) ≡ all_nodes xs + all_nodes ys
nodes_both [] ys = omega arith
nodes_both (x ∷ xs) ys =
    let rest : all_nodes (xs ++ ys) ≡ all_nodes xs + all_nodes ys = nodes_both xs ys in omega (arith, rest)

pub names_both : (xs ys : List Step) → all_names (xs ++ ys) ≡ all_names xs + all_names ys
names_both [] ys = omega arith
names_both (x ∷ xs) ys =
    let rest : all_names (xs ++ ys) ≡ all_names xs + all_names ys = names_both xs ys in omega (arith, rest)

not_past : (limit n : ℕ) → n ≤ limit → nat_lt limit n ≡ false
not_past limit n h = grind (arith, nat_tests)

-- ---- refusals

abbrev pub IsUnrefused : List Module → Step → Type 0
IsUnrefused ms x = step_refusals ms x ≡ []

pub unrefused_steps : (ms : List Module) (t : Totals) (xs : List Step) → Each (IsUnrefused ms) xs
    → t.nodes + all_nodes xs ≤ 4000000 → t.names + all_names xs ≤ 200000 → first_refused ms t xs ≡ None
unrefused_steps ms t [] h few fewer = refl
unrefused_steps ms t (x ∷ xs) h few fewer =
    let nodes : nat_lt 4000000 (t.nodes + step_nodes x) ≡ false
    = not_past 4000000 (t.nodes + step_nodes x) (omega (arith, few)) in
    let names : nat_lt 200000 (t.names + step_names x) ≡ false
    = not_past 200000 (t.names + step_names x) (omega (arith, fewer)) in
    (λ i. or_later (lowest (h.0 i ++ refused_if (nodes i || names i) (f.TooLarge (large_pos t x))))
    (first_refused ms (counted t x) xs))
    ∙ unrefused_steps ms (counted t x) xs h.1 (omega (arith, few)) (omega (arith, fewer))

-- ---- no bits of variables

abbrev pub HoldsNone : Part → Type 0
HoldsNone (declares d) = is_variable_class d.class ≡ false
HoldsNone p = Unit {0}

no_class_bits : (all : List Part) (d : Decl) (c : Class) → is_variable_class c ≡ false → class_bits all d c ≡ 0
no_class_bits all d class.Variable h = absurd (true≢false h)
no_class_bits all d class.Input h = refl
no_class_bits all d class.Reset h = refl
no_class_bits all d class.Clock h = refl
no_class_bits all d class.EachCycle h = refl
no_class_bits all d class.Once h = refl
no_class_bits all d class.Net h = refl

pub no_bits : (all ps : List Part) → Each HoldsNone ps → state_bits all ps ≡ 0
no_bits all [] h = refl
no_bits all (declares d ∷ ps) h =
    let here : class_bits all d d.class ≡ 0 = no_class_bits all d d.class h.0 in
    let rest : state_bits all ps ≡ 0 = no_bits all ps h.1 in omega (arith, here, rest)
no_bits all (p ∷ ps) h = no_bits all ps h.1

pub steps_hold_none : (xs : List Step) → Each (λ x. Each HoldsNone (step_parts x)) xs
    → Each HoldsNone (parts_of_steps xs)
steps_hold_none [] h = tt
steps_hold_none (x ∷ xs) h = each_both HoldsNone (step_parts x) (parts_of_steps xs) h.0 (steps_hold_none xs h.1)
