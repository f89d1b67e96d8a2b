-- Between functions: Literals as codes: 2v for the variable v, and 2v + 1 for its complement. Rule of this project.
use Rattle.std.specs.Prelude.{
  ℕ,
  ◌+◌,
  ◌-◌,
  ◌*◌,
  ◌/◌,
  ◌%◌,
  if◌then◌else◌,
  ◌==◌,
  List,
  map,
  ℤ,
  pos,
  negsuc,
  neg_ℤ,
}

abbrev pub code_of : ℤ → ℕ
code_of (pos n) = n * 2
code_of (negsuc n) = (n + 1) * 2 + 1

-- the literal that has the code
abbrev pub lit_of : ℕ → ℤ
lit_of code = if code % 2 == 0 then pos (code / 2) else neg_ℤ (pos (code / 2))

-- the code of the complement
abbrev pub flip : ℕ → ℕ
flip code = if code % 2 == 0 then code + 1 else code - 1

abbrev pub codes_of : List ℤ → List ℕ
codes_of lits = map code_of lits

abbrev pub lits_of : List ℕ → List ℤ
lits_of codes = map lit_of codes
