use Rattle.std.specs.Prelude.{◌≡◌, ◌+◌, ◌<◌, ◌≤◌, None, length}
use Rattle.std.proofs.Common.{ap, ◌∙◌, arith}
use Rattle.vl_lower_assign.specs.declared.track.Track.{Track}
use Rattle.vl_lower_assign.specs.Tracks.{track_at}
use Rattle.vl_lower_assign.proofs.Following.{is_track, last_gone, none_met}
use Rattle.vl_lower_assign.proofs.tracking.forget.Goals as goal

pub returns-then-first-start : goal.returns-then-first-start
returns-then-first-start c =
    let ts = c.args.tracks.now in
    let last = c.in-Some.last in
    let at : last + 1 ≡ c.begun_before.result = omega arith in
    let there : last < length ts = omega (arith, at, c.begun_before.ensures.few) in
    let read = is_track ts last c.index-tracks-last.result there in
    let old = is_track ts last c.index-tracks-last-then-first-start.result there in
    let start : (track_at ts last).first ≤ c.args.first = omega (arith, ap (λ (t : Track). t.first) read) in
    last_gone c.args.first c.args.count last None ts c.forget_one.new.track c.requires.apart
    (λ i past below. c.begun_before.ensures.later i (omega (arith, past, at)) below) start there
    (c.forget_one.ensures.first ∙ ap (λ (t : Track). t.first) old)
    (c.forget_one.ensures.count ∙ ap (λ (t : Track). t.count) old) c.forget_one.ensures.writes

pub returns : goal.returns
returns c =
    let ts = c.args.tracks.now in
    let last = c.in-Some.last in
    let at : last + 1 ≡ c.begun_before.result = omega arith in
    let there : last < length ts = omega (arith, at, c.begun_before.ensures.few) in
    let read = is_track ts last c.index-tracks-last.result there in
    let again = is_track ts last c.index-tracks-last-2.result there in
    let ends : (track_at ts last).first + (track_at ts last).count ≤ c.args.first =
    omega (arith, ap (λ (t : Track). t.first) read, ap (λ (t : Track). t.count) again) in
    none_met c.args.first c.args.count last None ts c.requires.apart
    (λ i past below. c.begun_before.ensures.later i (omega (arith, past, at)) below) ends there
