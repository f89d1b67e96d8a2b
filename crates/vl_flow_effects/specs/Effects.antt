-- Between functions: Sets of bits that are what statements read and assign. Rule of this project.
use Rattle.std.specs.Prelude.{List, [], ◌∷◌, ◌&&◌}
use Rattle.vl_tree.specs.declared.stmt.Arm.{Arm}
use Rattle.vl_tree.specs.Stmt.{Stmt, Arms, stmts, no_arms}
use Rattle.vl_tree.specs.StmtView.{with_arm}
use Rattle.vl_size.specs.declared.decl.Decl.{Decl}
use Rattle.fv_bit_sets.specs.Cells.{has}
use Rattle.vl_flow_spec.specs.Reads.{Bits}
use Rattle.vl_flow_spec.specs.Paths.{is_blocking, is_nonblocking, any_kind, has_default, sure, changes, needs, all_sure}
use Rattle.vl_flow_spec.specs.Paths.{any_changes, all_need, arms_sure, arms_change, arms_need}
use Rattle.vl_flow_cells.specs.Numbered.{Shows}
use Rattle.vl_flow_effects.specs.declared.effect.Effect.{Effect}

-- in the order of the two lists, each of the first with its one of the second
abbrev pub AreEach : {A B : Type 0} → (A → B → Type 0) → List A → List B → Type 0
AreEach R [] [] = Unit {0}
AreEach R (x ∷ xs) (y ∷ ys) = R x y × AreEach R xs ys
AreEach R xs ys = ⊥

module _ (ds : List Decl) where
  -- its sets are these
  pub record HasSets (e : Effect) (needed set surely_set now later : Bits) : Type 0 where
    pub needs : Shows ds (has e.needs) needed
    pub sure : Shows ds (has e.sure) set
    pub surely : Shows ds (has e.surely) surely_set
    pub blocking : Shows ds (has e.blocking) now
    pub nonblocking : Shows ds (has e.nonblocking) later

  abbrev pub IsEffectOf : Effect → Stmt → Type 0
  IsEffectOf e s =
      HasSets e (needs ds s) (sure ds is_blocking s) (sure ds any_kind s) (changes ds is_blocking s)
      (changes ds is_nonblocking s)

  -- of the statements one after the other
  abbrev pub IsEffectOfAll : Effect → List Stmt → Type 0
  IsEffectOfAll e xs =
      HasSets e (all_need ds (stmts xs)) (all_sure ds is_blocking (stmts xs)) (all_sure ds any_kind (stmts xs))
      (any_changes ds is_blocking (stmts xs)) (any_changes ds is_nonblocking (stmts xs))

  -- of one of the arms, whichever is taken
  abbrev pub IsEffectOfSome : Effect → Arms → Type 0
  IsEffectOfSome e xs =
      HasSets e (arms_need ds xs) (arms_sure ds is_blocking xs) (arms_sure ds any_kind xs)
      (arms_change ds is_blocking xs) (arms_change ds is_nonblocking xs)

  abbrev pub IsEffectOfArm : Effect → Arm → Type 0
  IsEffectOfArm e x = IsEffectOfSome e (with_arm x no_arms)

  -- of the arms of a case, of which none may be taken where there is no default
  abbrev pub IsEffectOfArms : Effect → Arms → Type 0
  IsEffectOfArms e xs =
      HasSets e (arms_need ds xs) (λ n i. has_default xs && arms_sure ds is_blocking xs n i)
      (λ n i. has_default xs && arms_sure ds any_kind xs n i) (arms_change ds is_blocking xs)
      (arms_change ds is_nonblocking xs)
