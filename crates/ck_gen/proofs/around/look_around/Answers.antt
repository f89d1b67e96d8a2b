use Rattle.std.specs.Prelude.{◌+◌, ℕ, List, take, drop}
use Rattle.std.proofs.Common.{ap, sym, ◌∙◌, subst}
use Rattle.ck_history.specs.Entries.{Show, entry_at}
use Rattle.ck_history.proofs.Entries.{show_take, show_drop}
use Rattle.ck_gen.specs.Around.{holds_around}
use Rattle.ck_gen.proofs.around.look_around.Goals as goal

pub returns-in_ok-id-in-Unique-clause-tells : goal.returns-in_ok-id-in-Unique-clause-tells
returns-in_ok-id-in-Unique-clause-tells c = λ g es given show.
    let old = c.args.net.now in
    let words = c.args.words.now in
    let place = c.args.place in
    let P : List ℕ → Type 0 = λ ids. Show old g ids (take place es) in
    let Q : List ℕ → Type 0 = λ ids. Show old g ids (drop (place + 1) es) in
    c.in_ok-id-in-Unique.ensures.tells g (take place es) (drop (place + 1) es) given
    (subst P (sym c.split_at.ensures.front) (show_take old g place words es show))
    (subst Q (sym c.split_at-in-Unique.ensures.back) (show_drop old g (place + 1) words es show))
    ∙ sym (ap (λ k. holds_around k place (entry_at old g c.args.own) es) c.in-Unique.is)
