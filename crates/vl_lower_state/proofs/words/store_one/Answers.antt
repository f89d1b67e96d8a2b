use Rattle.std.specs.Prelude.{◌≡◌, Some, get_or}
use Rattle.std.proofs.Common.{ap, sym, ◌∙◌, inr}
use Rattle.std.proofs.lemmas.Option.{get_or_from_slice_get}
use Rattle.wn_net.specs.declared.parts.Mem.{Mem}
use Rattle.vl_lower_state.specs.Writing.{with_writes, writes_at}
use Rattle.vl_lower_state.proofs.Placed.{written_at}
use Rattle.vl_lower_state.proofs.words.store_one.Goals as goal

pub returns-in_ok-store_kept-in-Some-clause-stored : goal.returns-in_ok-store_kept-in-Some-clause-stored
returns-in_ok-store_kept-in-Some-clause-stored c =
    let old = c.args.net.now in
    let at = c.requires.at in
    let mem = c.args.mem in
    let k = c.in-Some.ensures in
    let read = c.index-mems-mem.result in
    let own = ap (λ ms. writes_at ms mem) c.in_ok-store_kept-in-Some.ensures.others
    ∙ written_at mem c.in-Some.writes.now old.mems at.memory at.there in
    let is : get_or c.mems.result.now mem read ≡ at.memory = ap (λ ms. get_or ms mem read) c.mems.ensures.value
    ∙ get_or_from_slice_get old.mems mem at.memory read at.there in
    record {
      memory = at.memory;
      there = at.there;
      others =
          c.in_ok-store_kept-in-Some.ensures.others ∙ ap (λ xs. with_writes mem xs old.mems) (sym own);
      stored =
          inr (record {
            there = k.0;
            first_is = k.1;
            count_is = k.2 ∙ ap (λ (m : Mem). m.words) is;
            writes_are = k.3 ∙ ap Some (sym own);
          });
    }
