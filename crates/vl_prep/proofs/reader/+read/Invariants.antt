use Rattle.std.proofs.Common.{◌≡◌, ◌+◌, ◌*◌, drop}
use Rattle.vl_prep.specs.Prep as specs
use Rattle.vl_prep.specs.Stands.{done_of, stand_of, KeepsFresh}
use Rattle.vl_prep.proofs.reader.+read.Given as goal

abbrev pub decreases-read_text : goal.decreases-read_text
decreases-read_text l = l.site.levels * 8 + 5

abbrev pub decreases-read_token : goal.decreases-read_token
decreases-read_token l = l.site.levels * 8 + 4

abbrev pub decreases-read_name : goal.decreases-read_name
decreases-read_name l = l.site.levels * 8 + 3

abbrev pub decreases-read_body : goal.decreases-read_body
decreases-read_body l = l.site.levels * 8 + 3

abbrev pub decreases-read_plain : goal.decreases-read_plain
decreases-read_plain l = l.site.levels * 8 + 2

abbrev pub decreases-read_use : goal.decreases-read_use
decreases-read_use l = l.site.levels * 8 + 1

abbrev pub decreases-read_macro : goal.decreases-read_macro
decreases-read_macro l = l.levels * 8

abbrev pub invariant-read_text-loop-token : goal.invariant-read_text-loop-token
invariant-read_text-loop-token l =
    (specs.read_from l.site.at (specs.expand l.site.levels) (stand_of (done_of l.prepared) l.scope)
    (drop l.token-index l.text) ≡ specs.read_from l.site.at (specs.expand l.site.levels)
    (specs.started (done_of l.fn.prepared)) l.text)
    × KeepsFresh l.fn.prepared l.prepared
