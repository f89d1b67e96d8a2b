use Rattle.std.proofs.Common.{◌≡◌, ◌∙◌, ap, subst, sym}
use Rattle.std.specs.Prelude.{[], ◌∷◌, List}
use Rattle.vl_tree.specs.Item.{items}
use Rattle.vl_mean.specs.Declarations.{declared}
use Rattle.vl_mean.specs.Runs.{Each}
use Rattle.vl_mean.specs.Scopes.{Scope}
use Rattle.vl_elab_const.specs.Given.{value_given}
use Rattle.vl_elab_const.specs.Numbers.{HaveNumbers}
use Rattle.vl_elab_const.specs.Openable.{IsInRange}
use Rattle.vl_elab_flatten.specs.Here.{block_constants, block_scope}
use Rattle.vl_elab_flatten.specs.Levels.{HasConstants}
use Rattle.vl_elab_flatten.proofs.OpenBlocks.{
  block_beneath,
  block_constants_are,
  block_decls_are,
  block_different,
  block_in_range,
  block_numbers,
  block_plain,
  block_scope_is,
}
use Rattle.vl_elab_flatten.proofs.here.enter_block.Goals as goal

pub fill-requires : goal.fill-requires
fill-requires c =
    let ss = c.args.scopes.now in
    let ns = c.args.numbers.now in
    let h = c.requires.numbers in
    let path = c.args.path.now in
    let xs = items c.args.all.now in
    let can = c.requires.openable in
    let t = c.add_items.new.scope in
    let ms = c.add_items.new.numbers in
    let has : HasConstants path (block_constants ss xs) ns c.add_items.new.scope c.add_items.new.numbers =
    block_constants_are ss ns h path xs can (value_given c.new-nothing.result)
    c.new-nothing.ensures c.in_ok-copied.field-0 c.new-scope.result c.add_items.new.scope c.enter.new.self
    c.add_items.new.numbers c.in_ok-copied.ensures c.new-scope.ensures
    (c.in_ok-enter.ensures.ok ∙ ap (λ l. l ∷ ns) c.new.ensures) c.in_ok-add_items.ensures in
    let ds = c.as_slice.result.now in
    let read : (ls : List Scope) → HaveNumbers c.add_items.new.numbers ls
    → Each IsInRange (declared ls (items c.args.all.now))
    → c.as_slice.result.now ≡ declared ls (items c.args.all.now) =
    λ ls n r. c.as_slice.ensures ∙ c.in_ok-decls.ensures ls n r in
    record {
      different = block_different ss ns h path xs can t ms has ds read;
      plain = block_plain ss ns h path xs can t ms has ds read;
      in_range = block_in_range ss ns h path xs can t ms has ds read;
    }

pub returns-clause-scopes : goal.returns-clause-scopes
returns-clause-scopes c =
    let ss = c.args.scopes.now in
    let ns = c.args.numbers.now in
    let h = c.requires.numbers in
    let path = c.args.path.now in
    let xs = items c.args.all.now in
    let can = c.requires.openable in
    let t = c.add_items.new.scope in
    let ms = c.add_items.new.numbers in
    let has : HasConstants path (block_constants ss xs) ns c.add_items.new.scope c.add_items.new.numbers =
    block_constants_are ss ns h path xs can (value_given c.new-nothing.result)
    c.new-nothing.ensures c.in_ok-copied.field-0 c.new-scope.result c.add_items.new.scope c.enter.new.self
    c.add_items.new.numbers c.in_ok-copied.ensures c.new-scope.ensures
    (c.in_ok-enter.ensures.ok ∙ ap (λ l. l ∷ ns) c.new.ensures) c.in_ok-add_items.ensures in
    let ds = c.as_slice.result.now in
    let read : (ls : List Scope) → HaveNumbers c.add_items.new.numbers ls
    → Each IsInRange (declared ls (items c.args.all.now))
    → c.as_slice.result.now ≡ declared ls (items c.args.all.now) =
    λ ls n r. c.as_slice.ensures ∙ c.in_ok-decls.ensures ls n r in
    c.in_ok-enter-2.ensures.ok
    ∙ ap (λ (s : Scope). s ∷ ss)
    (block_scope_is ss ns h path xs can t ms has ds read c.fill.new.scope c.in_ok-fill.ensures.scope
    c.fill.new.numbers c.in_ok-fill.ensures.numbers)

pub returns-clause-numbers : goal.returns-clause-numbers
returns-clause-numbers c =
    let ss = c.args.scopes.now in
    let ns = c.args.numbers.now in
    let h = c.requires.numbers in
    let path = c.args.path.now in
    let xs = items c.args.all.now in
    let can = c.requires.openable in
    let t = c.add_items.new.scope in
    let ms = c.add_items.new.numbers in
    let has : HasConstants path (block_constants ss xs) ns c.add_items.new.scope c.add_items.new.numbers =
    block_constants_are ss ns h path xs can (value_given c.new-nothing.result)
    c.new-nothing.ensures c.in_ok-copied.field-0 c.new-scope.result c.add_items.new.scope c.enter.new.self
    c.add_items.new.numbers c.in_ok-copied.ensures c.new-scope.ensures
    (c.in_ok-enter.ensures.ok ∙ ap (λ l. l ∷ ns) c.new.ensures) c.in_ok-add_items.ensures in
    let ds = c.as_slice.result.now in
    let read : (ls : List Scope) → HaveNumbers c.add_items.new.numbers ls
    → Each IsInRange (declared ls (items c.args.all.now))
    → c.as_slice.result.now ≡ declared ls (items c.args.all.now) =
    λ ls n r. c.as_slice.ensures ∙ c.in_ok-decls.ensures ls n r in
    let scopes_are : c.enter-2.new.self ≡ block_scope ss path xs ∷ ss =
    c.in_ok-enter-2.ensures.ok
    ∙ ap (λ (s : Scope). s ∷ ss)
    (block_scope_is ss ns h path xs can t ms has ds read c.fill.new.scope c.in_ok-fill.ensures.scope
    c.fill.new.numbers c.in_ok-fill.ensures.numbers) in
    subst (HaveNumbers c.fill.new.numbers) (sym scopes_are)
    (block_numbers ss ns h path xs can t ms has ds read c.fill.new.scope c.in_ok-fill.ensures.scope
    c.fill.new.numbers c.in_ok-fill.ensures.numbers)

pub returns-clause-beneath : goal.returns-clause-beneath
returns-clause-beneath c =
    let ss = c.args.scopes.now in
    let ns = c.args.numbers.now in
    let h = c.requires.numbers in
    let path = c.args.path.now in
    let xs = items c.args.all.now in
    let can = c.requires.openable in
    let t = c.add_items.new.scope in
    let ms = c.add_items.new.numbers in
    let has : HasConstants path (block_constants ss xs) ns c.add_items.new.scope c.add_items.new.numbers =
    block_constants_are ss ns h path xs can (value_given c.new-nothing.result)
    c.new-nothing.ensures c.in_ok-copied.field-0 c.new-scope.result c.add_items.new.scope c.enter.new.self
    c.add_items.new.numbers c.in_ok-copied.ensures c.new-scope.ensures
    (c.in_ok-enter.ensures.ok ∙ ap (λ l. l ∷ ns) c.new.ensures) c.in_ok-add_items.ensures in
    let ds = c.as_slice.result.now in
    let read : (ls : List Scope) → HaveNumbers c.add_items.new.numbers ls
    → Each IsInRange (declared ls (items c.args.all.now))
    → c.as_slice.result.now ≡ declared ls (items c.args.all.now) =
    λ ls n r. c.as_slice.ensures ∙ c.in_ok-decls.ensures ls n r in
    block_beneath ss ns h path xs can t ms has ds read c.fill.new.scope c.in_ok-fill.ensures.scope
    c.fill.new.numbers c.in_ok-fill.ensures.numbers

pub returns-clause-decls : goal.returns-clause-decls
returns-clause-decls c =
    let ss = c.args.scopes.now in
    let ns = c.args.numbers.now in
    let h = c.requires.numbers in
    let path = c.args.path.now in
    let xs = items c.args.all.now in
    let can = c.requires.openable in
    let t = c.add_items.new.scope in
    let ms = c.add_items.new.numbers in
    let has : HasConstants path (block_constants ss xs) ns c.add_items.new.scope c.add_items.new.numbers =
    block_constants_are ss ns h path xs can (value_given c.new-nothing.result)
    c.new-nothing.ensures c.in_ok-copied.field-0 c.new-scope.result c.add_items.new.scope c.enter.new.self
    c.add_items.new.numbers c.in_ok-copied.ensures c.new-scope.ensures
    (c.in_ok-enter.ensures.ok ∙ ap (λ l. l ∷ ns) c.new.ensures) c.in_ok-add_items.ensures in
    block_decls_are ss ns h path xs can t ms has c.in_ok-decls.decls c.in_ok-decls.ensures
