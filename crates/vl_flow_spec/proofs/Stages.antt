-- Blocks without latches, and assignments by constant indices, as stages that can be put in an order.
use Rattle.std.specs.Prelude.{◌≡◌, refl, ◌≤◌, List, Bool, true, false, ◌||◌, Some}
use Rattle.std.proofs.Common.{sym, ◌∙◌, true≢false}
use Rattle.vl_tree.specs.Expr.{Expr}
use Rattle.vl_tree.specs.Lval.{Lval, Lvals, named, joined, no_lvals, more_lvals}
use Rattle.vl_tree.specs.Stmt.{Stmt}
use Rattle.vl_size.specs.declared.decl.Decl.{Decl}
use Rattle.vl_size.specs.Size.{Values}
use Rattle.vl_size.specs.Table.{declared_as}
use Rattle.vl_mean.specs.Execution.{begun, assigned, exec, assigns}
use Rattle.vl_mean.specs.FlatLaw.{flat_scopes, IsBlock, IsTarget, AreTargets, is_net}
use Rattle.vl_mean.specs.FlatLaw.{assigned_context}
use Rattle.vl_mean.specs.FlatLaw.{IsAssigned, IsReadIn}
use Rattle.vl_mean.specs.Targets.{put_all, are_fixed, may_change, any_may_change}
use Rattle.vl_flow_spec.specs.Reads.{Bits, Covers, AreInRange, selected, reads}
use Rattle.vl_flow_spec.specs.Paths.{is_blocking, target_reads, sets, any_sets, sure, needs}
use Rattle.vl_flow_spec.specs.Settle.{IsBitOf}
use Rattle.vl_flow_spec.proofs.Alike.{Alike, ◌∪◌}
use Rattle.vl_flow_spec.proofs.Bools.{or_left, or_right, or_either, or_case, and_both}
use Rattle.vl_flow_spec.proofs.Cells.{HaveOwnCells}
use Rattle.vl_flow_spec.proofs.Clockless.{HasNoClock, reads_no_clock, target_no_clock, needs_no_clock}
use Rattle.vl_flow_spec.proofs.Execs.{exec_same, puts_alike, net_counted}
use Rattle.vl_flow_spec.proofs.OneMap.{Stage, IsPart, Agree}
use Rattle.vl_flow_spec.proofs.Stays.{exec_stays, assigned_stays}
use Rattle.vl_flow_spec.proofs.Targets.{Marks, marks}

either_bit : {A : Type 0} (b c : Bool) → (c || b) ≡ true → (b ≡ true → A) → (b ≡ false → c ≡ true → A) → A
either_bit true c h f g = f refl
either_bit false true h f g = g refl refl
either_bit false false h f g = absurd (true≢false (sym h))

-- by constant indices an assignment surely assigns all that it may change
module _ (ds : List Decl) (may : Decl → Bool) where
  mutual
    pub fixed_sets : (l : Lval) → IsTarget ds may true l → Covers (sets ds l) (may_change (flat_scopes ds) l)
    fixed_sets (named p text xs) is n k h = and_both (are_fixed (flat_scopes ds) xs) (selected ds text xs n k) is.2 h
    fixed_sets (joined p ls) is n k h = all_fixed_sets ls is n k h

    all_fixed_sets : (ls : Lvals) → AreTargets ds may true ls
        → Covers (any_sets ds ls) (any_may_change (flat_scopes ds) ls)
    all_fixed_sets no_lvals is n k h = h
    all_fixed_sets (more_lvals l ls) is n k h =
        or_either (may_change (flat_scopes ds) l n k) (any_may_change (flat_scopes ds) ls n k)
        (sets ds l n k || any_sets ds ls n k)
        (λ t. or_left (sets ds l n k) (any_sets ds ls n k) (fixed_sets l is.0 n k t))
        (λ t. or_right (sets ds l n k) (any_sets ds ls n k) (all_fixed_sets ls is.1 n k t)) h

module _ (ds : List Decl) (wide : (d : Decl) → declared_as ds d.name ≡ Some d → 1 ≤ d.width) (cells : HaveOwnCells ds) where
  alike_from : (N : Bits) → HasNoClock ds cells N → (K : Bits) (u v : Values) → AreInRange ds u → AreInRange ds v
      → Covers K N → Agree (AreInRange ds) (IsBitOf ds) K u v → Alike ds N u v
  alike_from N none K u v ok_u ok_v c h = record {
    bits = λ d n k of below t.
        h n k (record { decl = d; of = of; below = below; counted = none d n k of t }) (c n k t);
    left = ok_u;
    right = ok_v;
    counted = none;
  }

  abbrev pub comb_stage : Stmt → Stage
  comb_stage s = record {
    needs = needs ds s;
    drives = assigns (flat_scopes ds) s;
    step = λ v. (exec (flat_scopes ds) s (begun v)).now;
  }

  -- a combinational block in which each bit that may be assigned surely is
  pub comb_is : (s : Stmt) → IsBlock ds s → Covers (sure ds is_blocking s) (assigns (flat_scopes ds) s)
      → IsPart (AreInRange ds) (IsBitOf ds) (comb_stage s)
  comb_is s is all = record {
    ok = λ v ok. (after (needs ds s) v v ok ok (λ n k t. t) (λ n k here e. refl)).left;
    same = λ K u v ok_u ok_v c h n k here e.
        either_bit (assigns (flat_scopes ds) s n k) (K n k) e
        (λ t. (after K u v ok_u ok_v c h).bits here.decl n k here.of here.below
        (or_right (needs ds s n k) (sure ds is_blocking s n k) (all n k t)))
        (λ none t. exec_stays ds wide s is (begun u) n k none ∙ h n k here t
        ∙ sym (exec_stays ds wide s is (begun v) n k none));
    stays = λ v n k ok here none. exec_stays ds wide s is (begun v) n k none;
  }
    where
      after : (K : Bits) (u v : Values) → AreInRange ds u → AreInRange ds v → Covers K (needs ds s)
          → Agree (AreInRange ds) (IsBitOf ds) K u v
          → Alike ds (needs ds s ∪ sure ds is_blocking s) (exec (flat_scopes ds) s (begun u)).now
          (exec (flat_scopes ds) s (begun v)).now
      after K u v ok_u ok_v c h =
          (exec_same ds wide cells s is (needs ds s) (begun u) (begun v) (record {
            now = alike_from (needs ds s) (needs_no_clock ds cells s is) K u v ok_u ok_v c h;
            pending = refl;
            seen = refl;
          }) (λ n k t. t)).now

  abbrev pub assign_needs : Lval → Expr → Bits
  assign_needs l e n k = target_reads ds l n k || reads ds e n k

  abbrev pub assign_stage : Lval → Expr → Stage
  assign_stage l e = record {
    needs = assign_needs l e;
    drives = may_change (flat_scopes ds) l;
    step = λ v. put_all (assigned (flat_scopes ds) l (flat_scopes ds) e v) v;
  }

  -- a continuous assignment
  pub assign_is : (l : Lval) (e : Expr) → IsAssigned ds is_net true l → IsReadIn ds (assigned_context ds l e) e
      → IsPart (AreInRange ds) (IsBitOf ds) (assign_stage l e)
  assign_is l e to from = record {
    ok = λ v ok. (after (assign_needs l e) v v ok ok (λ n k t. t) (λ n k here f. refl)).left;
    same = λ K u v ok_u ok_v c h n k here f.
        either_bit (may_change (flat_scopes ds) l n k) (K n k) f
        (λ t. (after K u v ok_u ok_v c h).bits here.decl n k here.of here.below
        (or_right (assign_needs l e n k) (sets ds l n k) (fixed_sets ds is_net l to.0 n k t)))
        (λ none t. assigned_stays ds l e u mark n k none ∙ h n k here t ∙ sym (assigned_stays ds l e v mark n k none));
    stays = λ v n k ok here none. assigned_stays ds l e v mark n k none;
  }
    where
      mark : Marks ds l
      mark = marks ds wide is_net net_counted true l to.0

      none_of_clock : HasNoClock ds cells (assign_needs l e)
      none_of_clock d n k of h =
          or_case (target_reads ds l n k) (reads ds e n k) (target_no_clock ds cells is_net true l to.0 d n k of)
          (reads_no_clock ds cells e from.clockless d n k of) h

      after : (K : Bits) (u v : Values) → AreInRange ds u → AreInRange ds v → Covers K (assign_needs l e)
          → Agree (AreInRange ds) (IsBitOf ds) K u v
          → Alike ds (assign_needs l e ∪ sets ds l) (put_all (assigned (flat_scopes ds) l (flat_scopes ds) e u) u)
          (put_all (assigned (flat_scopes ds) l (flat_scopes ds) e v) v)
      after K u v ok_u ok_v c h =
          puts_alike ds wide cells is_net true l e (assign_needs l e) u v mark to.0 from.sized
          (alike_from (assign_needs l e) none_of_clock K u v ok_u ok_v c h)
          (λ n k t. or_left (target_reads ds l n k) (reads ds e n k) t)
          (λ n k t. or_right (target_reads ds l n k) (reads ds e n k) t)
