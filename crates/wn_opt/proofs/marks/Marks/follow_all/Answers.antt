use Rattle.std.specs.Prelude.{◌<◌, ◌≤◌, Some, length}
use Rattle.std.proofs.Common.{ap, sym, ◌∙◌, arith}
use Rattle.std.proofs.lemmas.Option.{slice_get-get_or}
use Rattle.wn_opt.proofs.Walking.{all_needed, are_in_more, one_followed}
use Rattle.wn_opt.proofs.marks.Marks.follow_all.Goals as goal

pub loop-place-init : goal.loop-place-init
loop-place-init c = record {
  walks = c.requires.walks;
  followed = λ k user x low e f. absurd (omega (arith, low));
  first = c.requires.roots;
}

pub follow-requires-clause-there : goal.follow-requires-clause-there
follow-requires-clause-there c =
    let m = c.loop-place.self in
    let less : c.loop-place.place < length m.list.items = omega
    (arith, c.loop-place-test.true, c.len.ensures, m.list.ok.0) in
    let w = c.loop-place.invariant.walks in
    let user = c.index-user.result.now in
    w.there user (w.needed user
    (c.loop-place.place, slice_get-get_or m.list.items c.loop-place.place user less ∙ ap Some (sym c.index-user.ensures)))

pub follow-requires-clause-listed : goal.follow-requires-clause-listed
follow-requires-clause-listed c =
    let m = c.loop-place.self in
    let less : c.loop-place.place < length m.list.items = omega
    (arith, c.loop-place-test.true, c.len.ensures, m.list.ok.0) in
    let user = c.index-user.result.now in
    (c.loop-place.place, slice_get-get_or m.list.items c.loop-place.place user less ∙ ap Some (sym c.index-user.ensures))

pub loop-place-preserved : goal.loop-place-preserved
loop-place-preserved c =
    let m = c.loop-place.self in
    let k = c.follow.new.self in
    let less : c.loop-place.place < length m.list.items = omega
    (arith, c.loop-place-test.true, c.len.ensures, m.list.ok.0) in
    let user = c.index-user.result.now in
    let at = slice_get-get_or m.list.items c.loop-place.place user less ∙ ap Some (sym c.index-user.ensures) in
    let more = c.in_ok-follow.ensures.goes.more in
    record {
      walks = c.in_ok-follow.ensures.goes.walks;
      followed = one_followed c.args.net.now m k c.loop-place.place user more c.loop-place.invariant.followed at
          c.in_ok-follow.ensures.followed;
      first = are_in_more m k c.args.roots.now more c.loop-place.invariant.first;
    }

pub returns : goal.returns
returns c =
    let m = c.loop-place.self in
    let past : length m.list.items ≤ c.loop-place.place = omega
    (arith, c.loop-place-test.false, c.len.ensures, m.list.ok.0) in
    all_needed c.args.net.now c.args.roots.now m c.loop-place.invariant.walks c.loop-place.place past
    c.loop-place.invariant.followed c.loop-place.invariant.first
