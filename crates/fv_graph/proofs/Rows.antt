-- The targets of a node, as they are read.
use Rattle.std.specs.Prelude.{◌≡◌, refl, ℕ, ◌<◌, ◌≤◌, List, length, Some, None, slice_get}
use Rattle.std.proofs.Common.{ap, sym, ◌∙◌, get_or}
use Rattle.std.proofs.lemmas.Option.{slice_get_read, slice_get_past}
use Rattle.fv_graph.specs.Graph.{or_empty, targets}

pub row_at : (g : List (List ℕ)) (i : ℕ) (row : List ℕ) → i < length g → row ≡ get_or g i row → targets g i ≡ row
row_at g i row less e = ap or_empty (slice_get_read g (length g) i row refl less e)

pub target_at : (g : List (List ℕ)) (i k x : ℕ) (row : List ℕ) → i < length g → row ≡ get_or g i row → k < length row
    → x ≡ get_or row k x → Some x ≡ slice_get (targets g i) k
target_at g i k x row less e short f =
    sym (ap (λ r. slice_get r k) (row_at g i row less e) ∙ slice_get_read row (length row) k x refl short f)

pub no_target : (g : List (List ℕ)) (i k : ℕ) (row : List ℕ) → i < length g → row ≡ get_or g i row → length row ≤ k
    → None ≡ slice_get (targets g i) k
no_target g i k row less e past =
    sym (ap (λ r. slice_get r k) (row_at g i row less e) ∙ slice_get_past row k past)

pub ruleset rows = (target_at, no_target)
