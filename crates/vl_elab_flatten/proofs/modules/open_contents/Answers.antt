use Rattle.std.proofs.Common.{refl}
use Rattle.vl_tree.specs.Item.{items}
use Rattle.vl_elab_flatten.specs.declared.modules.Opened.{Opened}
use Rattle.vl_elab_flatten.proofs.Entered.{can_fill, opened}
use Rattle.vl_elab_flatten.proofs.modules.open_contents.Goals as goal

pub read_contents-requires : goal.read_contents-requires
read_contents-requires c = c.requires

pub fill_contents-requires : goal.fill_contents-requires
fill_contents-requires c =
    can_fill c.args.header.now c.args.ports.now (items c.args.all.now) c.requires.used c.args.path
    c.in_ok-contents.contents
    (c.in_ok-contents.ensures c.requires.used c.requires.inputs_are c.requires.given_is) c.requires.openable

pub returns : goal.returns
returns c w a g =
    let new = c.fill_contents.new.contents in
    let o : Opened = record {
      here = record {
        scopes = c.in_ok-scopes.scopes;
        numbers = c.fill_contents.new.contents.numbers;
        path = c.args.path;
        names = c.in_ok-names.names;
      };
      ports = c.fill_contents.new.contents.ports;
      decls = c.fill_contents.new.contents.decls;
    } in
    opened c.args.header.now c.args.ports.now (items c.args.all.now) w c.args.path c.in_ok-contents.contents new
    (c.in_ok-contents.ensures w a g) c.in_ok-fill_contents.ensures o c.as_slice.result.now c.in_ok-scopes.ensures refl
    refl c.as_slice.ensures c.in_ok-names.ensures refl refl
