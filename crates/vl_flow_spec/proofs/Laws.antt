-- The laws, as they are stated.
use Rattle.std.specs.Prelude.{◌≡◌, refl, ℕ, ◌≤◌, List, Bool, false, All, Some, IsSome}
use Rattle.vl_tree.specs.Expr.{Expr}
use Rattle.vl_tree.specs.Stmt.{Stmt}
use Rattle.vl_size.specs.declared.decl.Decl.{Decl}
use Rattle.vl_size.specs.Size.{Values, cells_in, size, value}
use Rattle.vl_size.specs.Table.{declared_as, IsShaped, AreApart}
use Rattle.vl_mean.specs.Execution.{begun, assigns}
use Rattle.vl_mean.specs.FlatLaw.{flat_scopes, IsBlock}
use Rattle.vl_mean.specs.Targets.{bit_of}
use Rattle.vl_flow_spec.specs.Depends.{done, EndsAlike}
use Rattle.vl_flow_spec.specs.Paths.{is_blocking, sure, needs}
use Rattle.vl_flow_spec.specs.Reads.{AgreeOn, AreInRange, reads}
use Rattle.vl_flow_spec.proofs.Alike.{fewer, agree_of, ◌∪◌}
use Rattle.vl_flow_spec.proofs.Bools.{or_right}
use Rattle.vl_flow_spec.proofs.Cells.{declared_all, own_cells}
use Rattle.vl_flow_spec.proofs.Clockless.{needs_no_clock}
use Rattle.vl_flow_spec.proofs.Execs.{SameState, exec_same}
use Rattle.vl_flow_spec.proofs.Same.{same_value}
use Rattle.vl_flow_spec.proofs.Stays.{exec_stays}

wide_of : (ds : List Decl) → All IsShaped ds → (d : Decl) → declared_as ds d.name ≡ Some d → 1 ≤ d.width
wide_of ds shaped d own = (declared_all IsShaped ds d.name d own shaped).some_bits

pub value_depends : (ds : List Decl) → All IsShaped ds → (e : Expr) → IsSome (size ds e) → (u v : Values)
    → AgreeOn ds (reads ds e) u v → (w : ℕ) (s : Bool)
    → value ds (cells_in u) w s e ≡ value ds (cells_in v) w s e
value_depends ds shaped e sized u v a w s =
    same_value ds (wide_of ds shaped) e u v (reads ds e) a (λ n k h. h) sized w s

pub block_depends : (ds : List Decl) → All IsShaped ds → AreApart ds → (s : Stmt) → IsBlock ds s → (u v : Values)
    → AreInRange ds u → AreInRange ds v → AgreeOn ds (needs ds s) u v → EndsAlike ds s u v
block_depends ds shaped apart s is u v fits_u fits_v a = record {
  sures = agree_of ds (sure ds is_blocking s) (done ds s u).now (done ds s v).now
      (fewer ds (needs ds s ∪ sure ds is_blocking s) (sure ds is_blocking s) (done ds s u).now (done ds s v).now
      (λ n k h. or_right (needs ds s n k) (sure ds is_blocking s n k) h) after.now);
  pending = after.pending;
  seen = after.seen;
}
  where
    after : SameState ds (needs ds s ∪ sure ds is_blocking s) (done ds s u) (done ds s v)
    after =
        exec_same ds (wide_of ds shaped) (own_cells ds apart) s is (needs ds s) (begun u) (begun v) (record {
          now = record {
            bits = a.bits;
            left = fits_u;
            right = fits_v;
            counted = needs_no_clock ds (own_cells ds apart) s is;
          };
          pending = refl;
          seen = refl;
        }) (λ n k h. h)

pub block_keeps : (ds : List Decl) → All IsShaped ds → (s : Stmt) → IsBlock ds s → (v : Values) (n : List ℕ) (k : ℕ)
    → assigns (flat_scopes ds) s n k ≡ false → bit_of ((done ds s v).now n) k ≡ bit_of (v n) k
block_keeps ds shaped s is v n k h = exec_stays ds (wide_of ds shaped) s is (begun v) n k h
