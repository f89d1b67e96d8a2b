-- Between functions: What the outcome of a statement depends on. Rule of this project.
use Rattle.std.specs.Prelude.{◌≡◌, List}
use Rattle.vl_tree.specs.Stmt.{Stmt}
use Rattle.vl_size.specs.declared.decl.Decl.{Decl}
use Rattle.vl_size.specs.Size.{Values}
use Rattle.vl_mean.specs.Execution.{State, begun, exec}
use Rattle.vl_mean.specs.FlatLaw.{flat_scopes}
use Rattle.vl_flow_spec.specs.Reads.{AgreeOn}
use Rattle.vl_flow_spec.specs.Paths.{is_blocking, sure}

module _ (ds : List Decl) where
  -- after a statement
  abbrev pub done : Stmt → Values → State
  done s v = exec (flat_scopes ds) s (begun v)

  -- the same bits wait, the same numbers were assumed, and what it surely assigns is the same
  pub record EndsAlike (s : Stmt) (u v : Values) : Type 0 where
    pub sures : AgreeOn ds (sure ds is_blocking s) (done s u).now (done s v).now
    pub pending : (done s u).pending ≡ (done s v).pending
    pub seen : (done s u).seen ≡ (done s v).seen
