-- Between functions: Bits of a word that are put one behind the other (rule of this project).
use Rattle.std.specs.Prelude.{ℕ, ◌+◌, ◌-◌, Bool, ◌&&◌, nat_le, nat_lt, List, [], ◌∷◌}
use Rattle.fv_bits.specs.Bits.{joined}
use Rattle.rv_table.specs.Fields.{field}
use Rattle.rv_expand.specs.declared.span.Span.{Span}

-- how many bits
abbrev pub size : Span → ℕ
size s = s.high + 1 - s.low

abbrev pub sizes : List Span → ℕ
sizes [] = 0
sizes (s ∷ ss) = size s + sizes ss

-- the bits are some of a word
abbrev pub is_span : Span → Bool
is_span s = nat_le s.low s.high && nat_lt s.high 32

-- the number with these bits of the word behind it, one span after the other
abbrev pub behind : ℕ → ℕ → List Span → ℕ
behind w n [] = n
behind w n (s ∷ ss) = behind w (joined (size s) n (field s.high s.low w)) ss
