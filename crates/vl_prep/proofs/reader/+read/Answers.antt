use Rattle.vl_prep.specs.Stands.{done_of}
use Rattle.vl_prep.proofs.Uses.{quiet_use}
use Rattle.vl_prep.proofs.reader.+read.Goals as goal

pub read_macro-note_use-requires : goal.read_macro-note_use-requires
read_macro-note_use-requires t c fresh other g =
    quiet_use c.args.levels c.args.place c.args.name.now c.args.text.now other (done_of c.args.prepared.now)
    (done_of c.read_text.new.prepared) c.requires.held c.requires.levels
    c.in_ok-read_text.ensures.comes (c.in_ok-read_text.ensures.fresh fresh).1 g
