-- A map from names to bytes after a name was set.
use Rattle.std.proofs.Common.{◌≡◌, ℕ, List, [], ◌∷◌, Bool, true, false, cond, Option, Some, option_map, Vec, String}
use Rattle.std.proofs.Common.{string_bytes, bytes_eq, refl, sym, ap, ◌∙◌, subst}
use Rattle.std.specs.Ordering.{nat_cmp}
use Rattle.std.specs.Cmp.Lexicographic.{slice_cmp, bytes_decides}
use Rattle.std.proofs.lemmas.Cmp.{nat_list_cmp_total, nat_list_eq_equiv, eq_by_cmp_equiv}
use Rattle.std.proofs.lemmas.Map.Text.{is_eq-slice_cmp}
use Rattle.std.specs.Map.{lookup, KeepsOthers, IsKeyTest, AreApart}
use Rattle.std.specs.declared.alloc.Global.{Global}
use Rattle.std.specs.BTreeMap.{is_at}
use Rattle.std.specs.BTreeMap as tree
use Rattle.fv_base.specs.Outside.{Names, with_file}
use Rattle.fv_base.specs.Store.{Store, names_in, with_pairs}

abbrev Key : Type 0
Key = Vec ℕ Global

abbrev at : List ℕ → Key → Bool
at name = is_at (λ key. slice_cmp nat_cmp name key.items)

apart : (name other : List ℕ) (key : Key) → bytes_eq name other ≡ false → at name key ≡ true → at other key ≡ false
apart name other key differ here =
    is_eq-slice_cmp other key.items
    ∙ nat_list_eq_equiv.symm other key.items
    ∙ sym (nat_list_eq_equiv.congr name key.items other (sym (is_eq-slice_cmp name key.items) ∙ here))
    ∙ differ

others_kept : (cmp : Key → Key → Bool) (test : Key → Bool) (old new : List (Key × Key)) → KeepsOthers cmp test old new
    → (other : Key → Bool) → IsKeyTest cmp other → AreApart test other → lookup other new ≡ lookup other old
unfolding KeepsOthers
others_kept cmp test old new kept = kept

by_name : (same : Bool) (name other : List ℕ) (now old : List ℕ → Option (List ℕ)) (bytes : Option (List ℕ))
    → same ≡ bytes_eq name other
    → now name ≡ bytes → (bytes_eq name other ≡ false → now other ≡ old other) → now other ≡ cond same bytes (old other)
by_name true name other now old bytes is here there =
    subst (λ l. now l ≡ bytes) ((bytes_decides name other).0 (sym is)) here
by_name false name other now old bytes is here there = there (sym is)

-- after the name was set to the value, it holds the value, and each other name what it held
pub names_in-set : (name : List ℕ) (old new : Store) (value : Option Key)
    → tree.UpdatesBy (λ x y. slice_cmp nat_cmp x.items y.items) (λ key. slice_cmp nat_cmp name key.items) old new value
    → (other : List ℕ) → names_in new other ≡ cond (bytes_eq name other) (option_map (λ v. v.items) value)
    (names_in old other)
names_in-set name old new value updates other =
    by_name (bytes_eq name other) name other (names_in new) (names_in old) (option_map (λ v. v.items) value) refl
    (ap (option_map (λ v. v.items)) updates.1)
    (λ differ. ap (option_map (λ v. v.items))
    (others_kept _ _ _ _ updates.3 _ (λ x y. (eq_by_cmp_equiv nat_list_cmp_total).congr other x.items y.items)
    (λ key. apart name other key differ)))

-- pairs put into names that agree give names that agree
pub with_pairs-same : (pairs : List (String Global × Vec ℕ Global)) (f g : Names) → ((name : List ℕ) → f name ≡ g name)
    → (name : List ℕ) → with_pairs f pairs name ≡ with_pairs g pairs name
with_pairs-same [] f g same name = same name
with_pairs-same (p ∷ pairs) f g same name =
    with_pairs-same pairs (with_file f (string_bytes p.0) p.1.items) (with_file g (string_bytes p.0) p.1.items)
    (λ other. ap (λ rest. cond (bytes_eq (string_bytes p.0) other) (Some p.1.items) rest) (same other)) name

-- what was put for the next pair stands for that pair
pub with_pairs-step : (pair : String Global × Vec ℕ Global) (all rest : List (String Global × Vec ℕ Global))
    (old new : Names) (name bytes : List ℕ)
    → all ≡ pair ∷ rest → name ≡ string_bytes pair.0 → bytes ≡ pair.1.items
    → ((other : List ℕ) → new other ≡ with_file old name bytes other)
    → (other : List ℕ) → with_pairs new rest other ≡ with_pairs old all other
with_pairs-step pair all rest old new name bytes front is_name is_bytes put other =
    with_pairs-same rest new (with_file old (string_bytes pair.0) pair.1.items)
    (λ n. put n ∙ ap (λ m. with_file old m bytes n) is_name
    ∙ ap (λ b. with_file old (string_bytes pair.0) b n) is_bytes) other
    ∙ ap (λ ps. with_pairs old ps other) (sym front)
