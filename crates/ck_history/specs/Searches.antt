-- Between functions: Searches among entries, the last one first (rule of this project).
use Rattle.std.specs.Prelude.{ℕ, ◌+◌, ◌*◌, ◌<◌, ◌==◌, nat_lt, Bool, true, false}
use Rattle.std.specs.Prelude.{◌&&◌, ◌||◌, if◌then◌else◌, List, [], ◌∷◌}
use Rattle.fv_bits.specs.Bits.{part}
use Rattle.ck_history.specs.Entries.{Entry}
use Rattle.ck_history.specs.declared.sought.KeyTest.{KeyTest}
use Rattle.ck_history.specs.declared.sought.KeyTest.TheVariants as key
use Rattle.ck_history.specs.declared.sought.SmallTest.{SmallTest}
use Rattle.ck_history.specs.declared.sought.SmallTest.TheVariants as small
use Rattle.ck_history.specs.declared.sought.WordTest.{WordTest}
use Rattle.ck_history.specs.declared.sought.WordTest.TheVariants as datum
use Rattle.ck_history.specs.declared.sought.Sought.{Sought}

-- another key against the own one
abbrev pub key_meets : KeyTest → ℕ → ℕ → Bool
key_meets key.Below own other = nat_lt other own
key_meets key.Above own other = nat_lt own other
key_meets key.Before own other = own == other + 1
key_meets key.Behind own other = other == own + 1
key_meets key.Same own other = other == own

-- the small number of another entry against the own one
abbrev pub small_meets : SmallTest → Entry → Entry → Bool
small_meets small.Any own e = true
small_meets small.Same own e = e.small == own.small
small_meets small.Zero own e = e.small == 0
small_meets small.OneOfTwo own e = e.small == own.small || e.word == own.small
small_meets (small.Bit i) own e = part i 1 e.small == 1

-- its word against the own one
abbrev pub agrees : WordTest → Entry → Entry → Bool
agrees datum.Never own e = false
agrees datum.Whole own e = e.word == own.word
agrees (datum.Byte i) own e = part (8 * i) 8 e.word == part (8 * i) 8 own.word

-- the entry is one that is sought
abbrev pub is_sought : Sought → Entry → Entry → Bool
is_sought s own e = e.there == 1 && (key_meets s.key own.key e.key && small_meets s.small own e)

-- the first of these that is sought agrees with the own one, where there is one
abbrev pub first_agrees : Sought → Entry → List Entry → Bool
first_agrees s own [] = true
first_agrees s own (e ∷ es) = if is_sought s own e then agrees s.word own e else first_agrees s own es

-- a word has this byte, and a small number this bit
abbrev pub IsSmallTest : SmallTest → Type 0
IsSmallTest (small.Bit i) = i < 4
IsSmallTest test = Unit {0}

abbrev pub IsWordTest : WordTest → Type 0
IsWordTest (datum.Byte i) = i < 4
IsWordTest test = Unit {0}

pub record IsSought (s : Sought) : Type 0 where
  pub small : IsSmallTest s.small
  pub word : IsWordTest s.word
