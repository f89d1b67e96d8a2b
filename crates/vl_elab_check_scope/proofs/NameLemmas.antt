-- Names that stand twice, by a test of those before them.
use Rattle.std.specs.Prelude.{◌≡◌, refl, ℕ, ◌+◌, List, [], ◌∷◌, ◌++◌, Bool, true, false, ◌||◌, bytes_eq}
use Rattle.std.specs.Prelude.{Option, Some, None}
use Rattle.std.proofs.Common.{ap, sym, ◌∙◌, append_assoc, append-nil}
use Rattle.fv_text.specs.declared.pos.Pos.{Pos}
use Rattle.vl_mean.specs.Cells.{contains_name}
use Rattle.vl_elab_spec.specs.declared.elab_fault.ElabFault.{ElabFault}
use Rattle.vl_elab_spec.specs.declared.elab_fault.ElabFault.TheVariants as f
use Rattle.vl_elab_spec.specs.Expressions.{refused_if}
use Rattle.vl_elab_spec.specs.Items.{twice}
use Rattle.vl_elab_spec.specs.Refused.{lower_of, lowest}
use Rattle.vl_elab_check_expr.proofs.Lowest.{lowest_two}
use Rattle.vl_elab_check_item.proofs.Lists.{assoc}
use Rattle.vl_elab_check_scope.specs.Parts.{with_name, with_names, twice_by}

or_inner : (a b c : Bool) → (a || (b || c)) ≡ (b || (a || c))
or_inner true true c = refl
or_inner true false c = refl
or_inner false true c = refl
or_inner false false c = refl

-- one name more, behind the others
contains_last : (names : List (List ℕ)) (x text : List ℕ)
    → contains_name (names ++ x ∷ []) text ≡ (bytes_eq text x || contains_name names text)
contains_last [] x text = refl
contains_last (n ∷ names) x text =
    ap (λ b. bytes_eq text n || b) (contains_last names x text)
    ∙ or_inner (bytes_eq text n) (bytes_eq text x) (contains_name names text)

with_last : (g : List ℕ → Bool) (names : List (List ℕ)) (x : List ℕ)
    → ((text : List ℕ) → g text ≡ contains_name names text)
    → (text : List ℕ) → with_name g x text ≡ contains_name (names ++ x ∷ []) text
with_last g names x h text =
    ap (λ b. bytes_eq text x || b) (h text) ∙ sym (contains_last names x text)

pub same_twice : (g : List ℕ → Bool) (names : List (List ℕ)) → ((text : List ℕ) → g text ≡ contains_name names text)
    → (xs : List (List ℕ × Pos)) → twice_by g xs ≡ twice names xs
same_twice g names h [] = refl
same_twice g names h (x ∷ xs) =
    λ i. refused_if (h x.0 i) (f.Twice x.0 x.1)
    ++ same_twice (with_name g x.0) (names ++ x.0 ∷ []) (with_last g names x.0 h) xs i

pub same_names : (g : List ℕ → Bool) (names : List (List ℕ)) → ((text : List ℕ) → g text ≡ contains_name names text)
    → (xs : List (List ℕ)) (text : List ℕ) → with_names g xs text ≡ contains_name (names ++ xs) text
same_names g names h [] text = h text ∙ ap (λ l. contains_name l text) (sym (append-nil names))
same_names g names h (x ∷ xs) text =
    same_names (with_name g x) (names ++ x ∷ []) (with_last g names x h) xs text
    ∙ ap (λ l. contains_name l text) (append_assoc names (x ∷ []) xs)

-- one name more, behind what is found so far
pub twice_on : (g g' : List ℕ → Bool) (fault new whole : Option ElabFault) (text : List ℕ) (p : Pos)
    (front rest : List (List ℕ × Pos)) → front ≡ (text, p) ∷ rest
    → new ≡ lower_of fault (lowest (refused_if (g text) (f.Twice text p)))
    → ((other : List ℕ) → g' other ≡ with_name g text other) → lower_of fault (lowest (twice_by g front)) ≡ whole
    → lower_of new (lowest (twice_by g' rest)) ≡ whole
twice_on g g' fault new whole text p front rest e made same h =
    let here = refused_if (g text) (f.Twice text p) in
    let more = twice_by (with_name g text) rest in
    ap (λ x. lower_of x (lowest (twice_by g' rest))) made
    ∙ (λ i. lower_of (lower_of fault (lowest here)) (lowest (twice_by (λ other. same other i) rest)))
    ∙ assoc fault (lowest here) (lowest more) ∙ ap (lower_of fault) (lowest_two here more _ _ refl refl)
    ∙ ap (λ l. lower_of fault (lowest (twice_by g l))) (sym e) ∙ h

pub names_on : (g g' whole : List ℕ → Bool) (text : List ℕ) (front rest : List (List ℕ)) → front ≡ text ∷ rest
    → ((other : List ℕ) → g' other ≡ with_name g text other) → with_names g front ≡ whole
    → with_names g' rest ≡ whole
names_on g g' whole text front rest e same h =
    (λ i. with_names (λ other. same other i) rest) ∙ ap (with_names g) (sym e) ∙ h

lower_none : (o : Option ElabFault) → lower_of o None ≡ o
lower_none None = refl
lower_none (Some g) = refl

pub twice_end : (g : List ℕ → Bool) (fault whole : Option ElabFault) (front : List (List ℕ × Pos)) → front ≡ []
    → lower_of fault (lowest (twice_by g front)) ≡ whole → fault ≡ whole
twice_end g fault whole front e h =
    sym (lower_none fault) ∙ ap (λ l. lower_of fault (lowest (twice_by g l))) (sym e) ∙ h

pub names_end : (g whole : List ℕ → Bool) (front : List (List ℕ)) → front ≡ [] → with_names g front ≡ whole
    → g ≡ whole
names_end g whole front e h = ap (with_names g) (sym e) ∙ h
