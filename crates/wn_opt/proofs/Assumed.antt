-- The assumptions of a net that have new numbers.
use Rattle.std.specs.Prelude.{◌≡◌, refl, ◌↔◌, ℕ, suc, List, [], ◌∷◌, Some, None, is_none, Option, slice_get}
use Rattle.std.specs.List.{AllByRecursion}
use Rattle.std.proofs.Common.{ap, sym, ◌∙◌, true≢false}
use Rattle.std.proofs.lemmas.Option.{same_Some}
use Rattle.wn_net.specs.Value.{Given}
use Rattle.wn_net.specs.Net.{Netlist, value_at}
use Rattle.wn_opt.specs.Needed.{IsIn}
use Rattle.wn_opt.specs.Cone.{IsPlace, HasPlace, with_place, places_of}

pub met_of : (net part : Netlist) (t : List (Option ℕ)) (g h : Given) (ids : List ℕ)
    → ((id at : ℕ) → IsPlace t id at → value_at part h at ≡ value_at net g id)
    → AllByRecursion (λ id. value_at part h id ≡ 0 → ⊥) (places_of t ids)
    ↔ AllByRecursion (λ id. HasPlace t id → value_at net g id ≡ 0 → ⊥) ids
met_of net part t g h [] same = (λ m. tt, λ m. tt)
met_of net part t g h (id ∷ ids) same = by (slice_get t id) refl (met_of net part t g h ids same)
  where
    by : (o : Option (Option ℕ)) → slice_get t id ≡ o
        → (AllByRecursion (λ id. value_at part h id ≡ 0 → ⊥) (places_of t ids)
        ↔ AllByRecursion (λ id. HasPlace t id → value_at net g id ≡ 0 → ⊥) ids)
        → AllByRecursion (λ id. value_at part h id ≡ 0 → ⊥) (with_place o (places_of t ids))
        ↔ ((HasPlace t id → value_at net g id ≡ 0 → ⊥)
        × AllByRecursion (λ id. HasPlace t id → value_at net g id ≡ 0 → ⊥) ids)
    by None e rest = (λ m. (λ p v. true≢false (ap is_none (sym e ∙ p.1)), rest.0 m), λ m. rest.1 m.1)
    by (Some None) e rest = (
      λ m. (λ p v. true≢false (ap is_none (same_Some None (Some p.0) (sym e ∙ p.1))), rest.0 m),
      λ m. rest.1 m.1,
    )
    by (Some (Some at)) e rest = (
      λ m. (λ p v. m.0 (same id at e ∙ v), rest.0 m.1),
      λ m. (λ z. m.0 (at, e) (sym (same id at e) ∙ z), rest.1 m.1),
    )

-- all of them have one
pub all_of : (P : ℕ → Type 0) (t : List (Option ℕ)) (ids : List ℕ) → ((id : ℕ) → IsIn ids id → HasPlace t id)
    → AllByRecursion (λ id. HasPlace t id → P id) ids ↔ AllByRecursion P ids
all_of P t [] placed = (λ m. tt, λ m. tt)
all_of P t (id ∷ ids) placed =
    let rest = all_of P t ids (λ z h. placed z (suc h.0, h.1)) in (
      λ m. (m.0 (placed id (0, refl)), rest.0 m.1),
      λ m. (λ p. m.0, rest.1 m.1),
    )
