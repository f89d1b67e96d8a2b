use Rattle.std.proofs.Common.{◌∙◌, ap, sym, ◌++◌, codes, bytes_eq}
use Rattle.std.specs.Option.{option_map}
use Rattle.std.specs.Map.Iter.{deref_pair}
use Rattle.vl_mean.proofs.Lookups.{lookup-past}
use Rattle.vl_mean.proofs.env.Env.number_of_word.Goals as goal

pub loop-place-preserved : goal.loop-place-preserved
loop-place-preserved c =
    let name = c.args.memory.now ++ codes "[" ++ c.args.digits.now ++ codes "]" in
    lookup-past (λ key. bytes_eq name key.items) c.args.self.now.numbers.entries c.loop-place.place _
    (sym (ap (λ r. option_map deref_pair r) c.in-Some.is) ∙ c.get_index.ensures.entry)
    (ap (λ k. bytes_eq name k) (sym c.as_slice.ensures.value) ∙ sym c.is_word.ensures ∙ c.if-is_word.false)
    ∙ c.loop-place.invariant
