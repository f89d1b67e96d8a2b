-- Parameters that are judged one behind the other.
use Rattle.std.specs.Prelude.{◌≡◌, refl, ℕ, zero, suc, ◌+◌, List, [], ◌∷◌, ◌++◌, map, take, drop, Bool, ◌&&◌, not}
use Rattle.std.specs.Prelude.{is_some, Option, Some, None, if◌then◌else◌}
use Rattle.std.specs.Option.{option_copied}
use Rattle.std.proofs.Common.{ap, sym, ◌∙◌, arith, Bor, true}
use Rattle.std.proofs.lemmas.List.{append_assoc, append-nil, map-append, take-append-drop}
use Rattle.vl_tree.specs.declared.declaration.Parameter.{Parameter}
use Rattle.vl_tree.specs.declared.declaration.ParameterKind.{ParameterKind}
use Rattle.vl_size.proofs.Entries.{copied_some}
use Rattle.vl_mean.specs.Walk.{Place}
use Rattle.vl_elab_spec.specs.declared.elab_fault.ElabFault.{ElabFault}
use Rattle.vl_elab_spec.specs.declared.elab_fault.ElabFault.TheVariants as f
use Rattle.vl_elab_spec.specs.Expressions.{refused_if, expr_refusals}
use Rattle.vl_elab_spec.specs.Items.{is_given, is_localparam, parameter_refusals, parameters_refusals, value_context}
use Rattle.vl_elab_spec.specs.Meanings.{Names}
use Rattle.vl_elab_spec.specs.Refused.{lower_of, lowest}
use Rattle.vl_elab_check_expr.proofs.Lowest.{lowest_two}
use Rattle.vl_elab_check_item.specs.ItemParts.{parameter_parts}
use Rattle.vl_elab_check_item.proofs.Lists.{assoc}
use Rattle.vl_elab_scope.specs.Alike.{Alike}
use Rattle.vl_elab_scope.proofs.Exprs as x
use Rattle.vl_elab_scope.proofs.Items as y
use Rattle.vl_elab_const.specs.declared.given.Given.{Given}
use Rattle.vl_elab_const.specs.declared.given.Value.{Value}
use Rattle.vl_elab_const.specs.Given.{value_given}

-- ---- one parameter

-- whether it is given a value
pub given_test : (given : Given) (text : List ℕ) (b : Bool) (r : Option (Bor Value)) → b ≡ is_some r
    → option_copied r ≡ value_given given text → b ≡ is_some (value_given given text)
given_test given text b r h v = h ∙ copied_some r ∙ ap is_some v

pub ruleset tests = (given_test)

module _ (ns ms : List Names) (same : Alike ns ms) where
  same_value : (given : Bool) (p : Parameter)
      → (if given then [] else expr_refusals ns true (value_context ns p.shape.range p.value) p.value)
      ≡ (if given then [] else expr_refusals ms true (value_context ms p.shape.range p.value) p.value)
  same_value given p =
      let own : expr_refusals ns true (value_context ns p.shape.range p.value) p.value
      ≡ expr_refusals ms true (value_context ms p.shape.range p.value) p.value =
      x.same_expr ns ms same true (value_context ns p.shape.range p.value) p.value
      ∙ ap (λ c. expr_refusals ms true c p.value) (y.same_value_context ns ms same p.shape.range p.value) in
      λ i. if given then [] else own i

  pub parameter_alike : (a b given : Bool) (p : Parameter) → a ≡ b
      → parameter_parts ns a given p ≡ parameter_parts ms b given p
  parameter_alike a b given p e =
      λ i. refused_if (e i) (f.Twice p.name p.pos) ++ y.same_range ns ms same p.shape.range i
      ++ y.same_width ns ms same p.pos p.shape.range i ++ same_value given p i

-- ---- those so far

same_first : {A : Type 0} (x y : A) (xs ys : List A) → x ∷ xs ≡ y ∷ ys → x ≡ y
same_first x y xs ys e = cc

take_more : {A : Type 0} (n : ℕ) (xs : List A) (x : A) (rest : List A) → drop n xs ≡ x ∷ rest
    → take (n + 1) xs ≡ take n xs ++ x ∷ []
take_more zero [] x rest e = cc
take_more zero (y ∷ ys) x rest e = ap (λ z. z ∷ []) (same_first y x ys rest e)
take_more (suc n) [] x rest e = cc
take_more (suc n) (y ∷ ys) x rest e =
    let next : suc n + 1 ≡ suc (n + 1) = omega arith in
    ap (λ k. take k (y ∷ ys)) next ∙ ap (λ zs. y ∷ zs) (take_more n ys x rest e)

abbrev pub names_before : List (List ℕ) → ℕ → List Parameter → List (List ℕ)
names_before before n xs = before ++ map (λ x. x.name) (take n xs)

pub one_more : (before : List (List ℕ)) (n : ℕ) (xs : List Parameter) (x : Parameter) (rest : List Parameter)
    → drop n xs ≡ x ∷ rest → names_before before n xs ++ x.name ∷ [] ≡ names_before before (n + 1) xs
one_more before n xs x rest e =
    append_assoc before (map (λ x. x.name) (take n xs)) (x.name ∷ [])
    ∙ ap (λ l. before ++ l) (sym (map-append (λ (x : Parameter). x.name) (take n xs) (x ∷ [])))
    ∙ ap (λ l. before ++ map (λ x. x.name) l) (sym (take_more n xs x rest e))

pub none_yet : (before : List (List ℕ)) (xs : List Parameter) → before ≡ names_before before 0 xs
none_yet before [] = sym (append-nil before)
none_yet before (x ∷ xs) = sym (append-nil before)

pub all_passed : (before : List (List ℕ)) (n : ℕ) (xs : List Parameter) → drop n xs ≡ []
    → names_before before n xs ≡ before ++ map (λ x. x.name) xs
all_passed before n xs e =
    ap (λ l. before ++ map (λ x. x.name) l)
    (sym (append-nil (take n xs)) ∙ ap (λ l. take n xs ++ l) (sym e) ∙ take-append-drop n xs)

-- ---- the refusals so far

module _ (at : Place) (kind : ParameterKind) where
  pub fault_on : (now later : List (List ℕ)) (p : Parameter) (front rest : List Parameter) (given : Bool)
      (old found new whole : Option ElabFault) → front ≡ p ∷ rest → now ++ p.name ∷ [] ≡ later
      → found ≡ lowest (parameter_refusals at given now p)
      → given ≡ (not (is_localparam kind) && is_given at.contents p.name) → new ≡ lower_of old found
      → lower_of old (lowest (parameters_refusals at kind now front)) ≡ whole
      → lower_of new (lowest (parameters_refusals at kind later rest)) ≡ whole
  fault_on now later p front rest given old found new whole e l k g made h =
      let one = parameter_refusals at (not (is_localparam kind) && is_given at.contents p.name) now p in
      let more = parameters_refusals at kind (now ++ p.name ∷ []) rest in
      (λ i. lower_of (made i) (lowest (parameters_refusals at kind (sym l i) rest)))
      ∙ ap (λ o. lower_of (lower_of old o) (lowest more))
      (k ∙ ap (λ b. lowest (parameter_refusals at b now p)) g)
      ∙ assoc old (lowest one) (lowest more) ∙ ap (lower_of old) (lowest_two one more _ _ refl refl)
      ∙ ap (λ l. lower_of old (lowest (parameters_refusals at kind now l))) (sym e) ∙ h

  lower_none : (o : Option ElabFault) → lower_of o None ≡ o
  lower_none None = refl
  lower_none (Some g) = refl

  pub fault_end : (now : List (List ℕ)) (front : List Parameter) (fault whole : Option ElabFault) → front ≡ []
      → lower_of fault (lowest (parameters_refusals at kind now front)) ≡ whole → fault ≡ whole
  fault_end now front fault whole e h =
      sym (lower_none fault) ∙ ap (λ l. lower_of fault (lowest (parameters_refusals at kind now l))) (sym e) ∙ h

  pub fault_start : (now before : List (List ℕ)) (all : List Parameter) (fault : Option ElabFault) → fault ≡ None
      → before ≡ now → lower_of fault (lowest (parameters_refusals at kind now all))
      ≡ lowest (parameters_refusals at kind before all)
  fault_start now before all fault e h =
      ap (λ o. lower_of o (lowest (parameters_refusals at kind now all))) e
      ∙ ap (λ n. lowest (parameters_refusals at kind n all)) (sym h)
