use Rattle.std.proofs.Common.{◌≡◌, ◌∙◌, ℕ, List, sym}
use Rattle.std.specs.Prelude.{◌++◌, bytes_eq, if◌then◌else◌, option_to_list}
use Rattle.vl_size.specs.Table.{declared_as}
use Rattle.vl_size.proofs.Entries.{named_declared}
use Rattle.vl_elab_spec.specs.Meanings.{objects}
use Rattle.vl_elab_scope.specs.Seen.{seen, object_of}
use Rattle.vl_elab_scope.specs.Texts.{or_else}
use Rattle.vl_elab_scope.proofs.ScopeObjects.{none_added, object_added, object_fresh, on_ok}
use Rattle.vl_elab_scope.proofs.Reached.{stays}
use Rattle.vl_elab_scope.proofs.tables.add_object.Goals as goal

pub returns-then-is_declared-clause-ok : goal.returns-then-is_declared-clause-ok
returns-then-is_declared-clause-ok c other =
    stays (declared_as (objects c.args.names.now)) (declared_as c.args.decls.now) c.args.text.now other
    (named_declared c.args.decls.now c.args.text.now ∙ sym c.is_declared.ensures ∙ c.if-is_declared.true)

pub add-requires-clause-fresh : goal.add-requires-clause-fresh
add-requires-clause-fresh c =
    object_fresh c.args.names.now c.args.text.now (seen c.in-Some.meaning.now) c.args.decls.now c.meaning.ensures.named
    c.in-Some.ensures.value (sym c.is_declared.ensures ∙ c.if-is_declared.false)

pub returns-in-None-clause-ok : goal.returns-in-None-clause-ok
returns-in-None-clause-ok c other =
    none_added c.args.names.now c.args.text.now other c.args.decls.now c.meaning.ensures.named c.in-None.ensures.value

pub returns-in-Some-clause-ok : goal.returns-in-Some-clause-ok
returns-in-Some-clause-ok c =
    on_ok c.add.result
    (c.add.new.decls ≡ c.args.decls.now ++ option_to_list (object_of (seen c.in-Some.meaning.now)))
    ((other : List ℕ) → declared_as c.add.new.decls other
    ≡ (if bytes_eq other c.args.text.now
    then or_else (declared_as c.args.decls.now other) (declared_as (objects c.args.names.now) other)
    else declared_as c.args.decls.now other))
    (λ made other. object_added c.args.names.now c.args.text.now other (seen c.in-Some.meaning.now) c.args.decls.now
    c.add.new.decls c.meaning.ensures.named c.in-Some.ensures.value made) c.add.ensures.ok
