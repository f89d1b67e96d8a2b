-- Meaning: The first word of a depth line: what it is for. Rule of this project.
use Rattle.std.specs.Prelude.{
  ℕ,
  ◌-◌,
  if◌then◌else◌,
  nat_eq,
  List,
  [],
  ◌∷◌,
  drop,
  length,
  Option,
  Some,
  None,
}
use Rattle.std.specs.Prelude.{option_map, option_and_then, find, codes}
use Rattle.std.specs.List.{starts_with}
use Rattle.std.specs.Str.{bytes_eq}
use Rattle.fv_lines.specs.Numbers.{number_up_to}
use Rattle.ck_cfg.specs.declared.kind.CheckKind.{CheckKind}
use Rattle.ck_cfg.specs.declared.target.Target.{Target}
use Rattle.ck_cfg.specs.Kind.{kind_name, kinds}

-- the kind whose name begins the word
unfoldable pub kind_begun : List ℕ → Option CheckKind
kind_begun word = find (λ k. starts_with nat_eq word (kind_name k)) kinds

-- what stands behind the kind: nothing, or `_ch` and the number of one of so many channels
abbrev pub channel_behind : ℕ → List ℕ → Option (Option ℕ)
channel_behind channels [] = Some None
channel_behind channels (a ∷ b ∷ c ∷ ds) =
    if bytes_eq (a ∷ b ∷ c ∷ []) (codes "_ch") then option_map (λ n. Some n) (number_up_to (channels - 1) ds)
    else None
channel_behind channels rest = None

-- the kind and the channel of a word; None where the kind or the channel is wrong
abbrev pub target_of : ℕ → List ℕ → Option Target
target_of channels word =
    option_and_then (λ kind. option_map (λ channel. record { kind = kind; channel = channel })
    (channel_behind channels (drop (length (kind_name kind)) word))) (kind_begun word)
