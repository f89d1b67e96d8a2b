use Rattle.std.proofs.Common.{◌≡◌, ◌++◌, codes, bytes_eq}
use Rattle.std.specs.Prelude.{drop}
use Rattle.std.specs.Map.{lookup}
use Rattle.vl_mean.proofs.env.Env.number_of_word.Given as goal

abbrev pub invariant-loop-place : goal.invariant-loop-place
invariant-loop-place l =
    let name = l.memory ++ codes "[" ++ l.digits ++ codes "]" in
    lookup (λ key. bytes_eq name key.items) (drop l.place l.self.numbers.entries)
    ≡ lookup (λ key. bytes_eq name key.items) l.self.numbers.entries
