-- How many memories of the net a declared name comes to.
use Rattle.std.specs.Prelude.{◌≡◌, refl, ℕ, List, [], ◌∷◌, length, Bool, true, false, not, ◌&&◌, Option, Some, None}
use Rattle.std.specs.Prelude.{is_none, if◌then◌else◌, ℤ}
use Rattle.std.proofs.Common.{ap, sym, ◌∙◌, true≢false}
use Rattle.vl_size.specs.declared.decl.Class.{Class}
use Rattle.vl_size.specs.declared.decl.Class.TheVariants as class
use Rattle.vl_size.specs.declared.decl.Decl.{Decl}
use Rattle.vl_mean.specs.FlatLaw.{IsMemory, is_variable}
use Rattle.vl_mean.specs.Parts.{Part}
use Rattle.vl_mean.specs.Scopes.{is_clock_class}
use Rattle.vl_lower_spec.specs.Maps.{is_split}
use Rattle.vl_lower_cell_laws.specs.Entries.{is_memory, memories_of}
use Rattle.vl_lower_cell_laws.specs.Listing.{Keeping, Stored, memories_in, memory_count, stored}

-- what is no variable is no memory
pub no_memory : (ps : List Part) (d : Decl) → is_variable d ≡ false → IsMemory d.words d → is_memory ps d ≡ false
no_memory ps d other h = by d.words refl h
  where
    by : (w : Option (ℤ × ℤ)) → d.words ≡ w → IsMemory w d → is_memory ps d ≡ false
    by None e g = ap (λ o. not (is_none o) && not (is_split ps d)) e
    by (Some b) e g = absurd (true≢false (sym g.2 ∙ other))

pub has_words : (ps : List Part) (d : Decl) (w : Option (ℤ × ℤ)) → d.words ≡ w → is_memory ps d ≡ true
    → is_none w ≡ false
has_words ps d None e h = absurd (true≢false (sym h ∙ ap (λ o. not (is_none o) && not (is_split ps d)) e))
has_words ps d (Some b) e h = refl

pub memory_is_variable : (ps : List Part) (d : Decl) → IsMemory d.words d → is_memory ps d ≡ true
    → is_variable d ≡ true
memory_is_variable ps d h e = by d.words refl h
  where
    by : (w : Option (ℤ × ℤ)) → d.words ≡ w → IsMemory w d → is_variable d ≡ true
    by None f g = absurd (true≢false (sym e ∙ ap (λ o. not (is_none o) && not (is_split ps d)) f))
    by (Some b) f g = g.2

variable_class : (d : Decl) (c : Class) → d.class ≡ c → is_variable d ≡ is_variable (record d { class = c })
variable_class d c e = ap (λ x. is_variable (record d { class = x })) e

none_of_class : (ps : List Part) (d : Decl) (c : Class) → d.class ≡ c → is_variable (record d { class = c }) ≡ false
    → IsMemory d.words d → memories_of ps d ≡ 0
none_of_class ps d c e other h =
    ap (λ (b : Bool). if b then 1 else 0) (no_memory ps d (variable_class d c e ∙ other) h)

module _ (ps : List Part) (keep : Keeping) (d : Decl) (h : IsMemory d.words d) (first at : ℕ) where
  by_class : (c : Class) → d.class ≡ c
      → length (memories_in ps keep d c first at) ≡ (if is_clock_class c then 0 else memories_of ps d)
  by_class class.Variable e = by (is_memory ps d)
    where
      by : (b : Bool) → length {A = Stored × ℕ} (if b then (stored keep d first, at) ∷ [] else []) ≡ (if b then 1 else 0)
      by true = refl
      by false = refl
  by_class class.Clock e = refl
  by_class class.Reset e = sym (none_of_class ps d class.Reset e refl h)
  by_class class.Input e = sym (none_of_class ps d class.Input e refl h)
  by_class class.Net e = sym (none_of_class ps d class.Net e refl h)
  by_class class.EachCycle e = sym (none_of_class ps d class.EachCycle e refl h)
  by_class class.Once e = sym (none_of_class ps d class.Once e refl h)

  pub count_of : (c : Class) → d.class ≡ c → length (memories_in ps keep d c first at) ≡ memory_count ps d
  count_of c e = by_class c e ∙ ap (λ z. if is_clock_class z then 0 else memories_of ps d) (sym e)

  pub memories_many : length (memories_in ps keep d d.class first at) ≡ memory_count ps d
  memories_many = count_of d.class refl
