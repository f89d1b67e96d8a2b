use Rattle.std.specs.Prelude.{◌∷◌, []}
use Rattle.std.proofs.Common.{sym, subst}
use Rattle.vl_tree.specs.declared.stmt.AssignKind.{AssignKind}
use Rattle.wn_net.specs.Net.{value_at}
use Rattle.vl_lower_assign.specs.Frames.{Assigns, cells_of}
use Rattle.vl_lower_assign.proofs.assign.write_one.Goals as goal

pub returns-in_ok-write_both-in-Blocking : goal.returns-in_ok-write_both-in-Blocking
returns-in_ok-write_both-in-Blocking c =
    let P : AssignKind → Type 0 = λ k. Assigns c.args.net.now c.write_both.new.net c.args.decls.now
    (cells_of c.args.frame.now) (cells_of c.write_both.new.frame) c.args.path k (c.args.slot ∷ [])
    (λ g. value_at c.args.net.now g c.args.value) in
    subst P (sym c.in-Blocking.is) c.in_ok-write_both-in-Blocking.ensures

pub returns-in_ok-write_next-in-Nonblocking : goal.returns-in_ok-write_next-in-Nonblocking
returns-in_ok-write_next-in-Nonblocking c =
    let P : AssignKind → Type 0 = λ k. Assigns c.args.net.now c.write_next.new.net c.args.decls.now
    (cells_of c.args.frame.now) (cells_of c.write_next.new.frame) c.args.path k (c.args.slot ∷ [])
    (λ g. value_at c.args.net.now g c.args.value) in
    subst P (sym c.in-Nonblocking.is) c.in_ok-write_next-in-Nonblocking.ensures
