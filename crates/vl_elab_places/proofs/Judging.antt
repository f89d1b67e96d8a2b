-- Where a step is judged: at the node, or the name, that is one too many, or where it stands.
use Rattle.std.specs.Prelude.{◌≡◌, refl, ℕ, zero, suc, ◌-◌, List, [], ◌∷◌, Bool, true, false, slice_get, Option, None}
use Rattle.std.specs.Prelude.{if◌then◌else◌}
use Rattle.std.proofs.Common.{ap, sym, ◌∙◌}
use Rattle.fv_text.specs.declared.pos.Pos.{Pos}
use Rattle.vl_tree.specs.Item.{Block}
use Rattle.vl_size.specs.Places.{earlier_place}
use Rattle.vl_mean.specs.Walk.{Place, Step, block_step}
use Rattle.vl_elab_spec.specs.Counts.{block_pos, step_pos}
use Rattle.vl_elab_spec.specs.NodePlaces.{name_place, node_places}
use Rattle.vl_elab_spec.specs.Refused.{Totals, counted, is_too_large, large_pos, pos_or}
use Rattle.vl_elab_places.specs.declared.cursor.Cursor.{Cursor}
use Rattle.vl_elab_places.specs.Judged.{judged_pos}
use Rattle.vl_elab_places.specs.Passing.{passed}
use Rattle.vl_elab_places.proofs.Moved.{found_at}

-- what is found behind so many nodes
pub node_found : (ps : List Pos) (start behind : Cursor) (left k : ℕ)
    → start ≡ record { left = left; found = None } → left ≡ k → behind ≡ passed ps start
    → behind.found ≡ slice_get ps k
node_found ps start behind left k s same e =
    ap (λ (c : Cursor). c.found) (e ∙ ap (passed ps) s) ∙ found_at ps left ∙ ap (slice_get ps) same

pub large_is : (x : Step) (t : Totals) (r p : Pos) (node name : Option Pos) → p ≡ step_pos x
    → node ≡ slice_get (node_places x) (4000000 - t.nodes) → name ≡ name_place (200000 - t.names) x
    → r ≡ pos_or p (earlier_place node name) → r ≡ large_pos t x
large_is x t r p node name place nodes names made =
    made ∙ (λ i. pos_or (place i) (earlier_place (nodes i) (names i)))

pub judged_large : (x : Step) (t : Totals) (r : Pos) (b : Bool) → b ≡ is_too_large (counted t x) → b ≡ true
    → r ≡ large_pos t x → r ≡ judged_pos t x
judged_large x t r b same past made =
    made ∙ ap (λ test. if test then large_pos t x else step_pos x) (sym past ∙ same)

pub judged_small : (x : Step) (t : Totals) (p : Pos) (b : Bool) → b ≡ is_too_large (counted t x) → b ≡ false
    → p ≡ step_pos x → p ≡ judged_pos t x
judged_small x t p b same fits place =
    place ∙ ap (λ test. if test then large_pos t x else step_pos x) (sym fits ∙ same)

-- a block stands at its only node
pub block_judged : (t : Totals) (at : Place) (b : Block) → block_pos b ≡ judged_pos t (block_step at b)
block_judged t at b =
    by (is_too_large (counted t (block_step at b)))
    ∙ ap (λ q. if is_too_large (counted t (block_step at b)) then q else block_pos b)
    (sym (only (4000000 - t.nodes) (block_pos b)))
  where
    only : (k : ℕ) (p : Pos) → pos_or p (earlier_place (slice_get (p ∷ []) k) None) ≡ p
    only zero p = refl
    only (suc k) p = refl

    by : (c : Bool) → block_pos b ≡ (if c then block_pos b else block_pos b)
    by true = refl
    by false = refl
