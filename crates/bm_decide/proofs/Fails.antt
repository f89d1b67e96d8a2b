-- From the bits of a witness to choices of a run.
use Rattle.std.specs.Prelude.{◌≡◌, refl, ℕ, zero, suc, ◌+◌, ◌-◌, ◌<◌, ◌≤◌, ◌^◌, Bool, false, List, [], ◌∷◌, length}
use Rattle.std.specs.Prelude.{Some, map, slice_get, slice_index, slice_index_or}
use Rattle.std.specs.List.{AllByRecursion}
use Rattle.std.proofs.Common.{ap, sym, ◌∙◌, arith, subst, inl, inr, ◌⊎◌}
use Rattle.std.proofs.lemmas.Bool.{cases_lt}
use Rattle.std.proofs.lemmas.List.{length-map}
use Rattle.std.proofs.lemmas.Nat.{pow_pos}
use Rattle.wn_net.specs.declared.parts.Input.{Input}
use Rattle.wn_net.specs.declared.parts.Init.{Init}
use Rattle.wn_net.specs.declared.parts.Mem.{Mem}
use Rattle.wn_net.specs.Width.{IsWidth}
use Rattle.wn_net.specs.Given.{AreNumbersOf}
use Rattle.wn_net.specs.Net.{Netlist, IsNet, IsRegOf, IsMemOf}
use Rattle.wn_run.specs.Runs.{Choices, AreChoicesOf}
use Rattle.cnf_form.specs.Cnf.{value_of}
use Rattle.bb_blast.specs.Choice.{numbers_from, numbers_of}
use Rattle.bb_clauses.proofs.Reading.{read_is}
use Rattle.bm_unroll.specs.declared.frames.Source.{Source}
use Rattle.bm_unroll.specs.declared.frames.Source.TheVariants as s
use Rattle.bm_unroll.specs.Frames.{Chooses, IsChoice, chosen, source_width}
use Rattle.bm_unroll.proofs.Choosing.{numbers_of_choice}
use Rattle.bm_decide.specs.declared.verdict.Witness.{Witness}
use Rattle.bm_decide.specs.Chosen.{AreReadable, BitsAreReadable, ReadChoicesAreTheNets, HaveNumbers, bit_in}
use Rattle.bm_decide.specs.Chosen.{numbers_read}

-- ---- the widths of sources

-- what all items have, one that is at a place has, by what is told of each
at_place : {X Y : Type 0} (P : X → Type 0) (f : X → Y) (g : X → ℕ) (Q : ℕ → Type 0) (xs : List X) (i : ℕ) (y : Y)
    → ((x : X) → P x → Q (g x)) → AllByRecursion P xs → slice_get (map f xs) i ≡ Some y
    → Q (slice_index (map g xs) i)
at_place P f g Q [] i y each all e = cc
at_place P f g Q (x ∷ xs) zero y each all e = each x all.0
at_place P f g Q (x ∷ xs) (suc i) y each all e = at_place P f g Q xs i y each all.1 e

in_mem : (net : Netlist) (ms : List Mem) (m w : ℕ) (x : Init) → AllByRecursion (IsMemOf net) ms
    → slice_get (slice_index_or (map (λ x. x.init) ms) m []) w ≡ Some x
    → IsWidth (slice_index (map (λ x. x.width) ms) m)
in_mem net [] m w x all e = cc
in_mem net (y ∷ ys) zero w x all e = all.0.width
in_mem net (y ∷ ys) (suc m) w x all e = in_mem net ys m w x all.1 e

source_wide : (net : Netlist) (cycle : ℕ) (x : Source) → IsNet net → IsChoice net cycle x
    → IsWidth (source_width net x)
source_wide net cycle (s.Each i k) whole c =
    at_place (λ (y : Input). IsWidth y.width) (λ y. y.kind) (λ y. y.width) IsWidth net.inputs i _ (λ y h. h)
    whole.inputs c.0
source_wide net cycle (s.Once i) whole c =
    at_place (λ (y : Input). IsWidth y.width) (λ y. y.kind) (λ y. y.width) IsWidth net.inputs i _ (λ y h. h)
    whole.inputs c
source_wide net cycle (s.RegStart r) whole c =
    at_place (IsRegOf net) (λ y. y.init) (λ y. y.width) IsWidth net.regs r _ (λ y h. h.width) whole.regs c
source_wide net cycle (s.WordStart m w) whole c = in_mem net net.mems m w _ whole.mems c

sources_wide : (net : Netlist) (cycle : ℕ) (xs : List Source) → IsNet net → AllByRecursion (IsChoice net cycle) xs
    → AllByRecursion IsWidth (map (source_width net) xs)
sources_wide net cycle [] whole own = tt
sources_wide net cycle (x ∷ xs) whole own =
    (source_wide net cycle x whole own.0, sources_wide net cycle xs whole own.1)

pub bits_are_readable : BitsAreReadable
bits_are_readable net cycle bits whole own =
    let W : List ℕ → Type 0 = AllByRecursion IsWidth in
    record {
      distinct = own.distinct;
      each = ap length own.widths ∙ length-map bits.sources (source_width net);
      widths = subst W (sym own.widths) (sources_wide net cycle bits.sources whole own.sources);
      places = own.places;
    }

-- ---- the numbers of sources

-- the bits that stand one behind the other are those at the places
read_in_order : (x : Witness) → AreReadable x.bits
    → numbers_of x.bits.widths (bit_in x.values) ≡ numbers_read x
read_in_order x own =
    let less : (i : ℕ) → i + 1 - 1 ≡ i = λ i. omega arith in
    ap (numbers_of x.bits.widths) (λ p i. slice_index_or x.values (sym (less i) p) false)
    ∙ sym (read_is (value_of x.values) x.bits.places x.bits.widths own.places)

length-numbers_from : (x : ℕ → Bool) (at : ℕ) (ws : List ℕ) → length (numbers_from x at ws) ≡ length ws
length-numbers_from x at [] = refl
length-numbers_from x at (w ∷ ws) = ap suc (length-numbers_from x (at + w) ws)

pub numbers_are : (x : Witness) (ns made ws : List ℕ) (vs : List Bool) → ws ≡ x.bits.widths → vs ≡ x.values
    → made ≡ numbers_of ws (bit_in vs) → ns ≡ made → ns ≡ numbers_of x.bits.widths (bit_in x.values)
numbers_are x ns made ws vs wide own is same =
    same ∙ is ∙ ap (λ us. numbers_of us (bit_in vs)) wide ∙ ap (λ us. numbers_of x.bits.widths (bit_in us)) own

-- one for each source
pub numbers_each : (x : Witness) (ns : List ℕ) → AreReadable x.bits
    → ns ≡ numbers_of x.bits.widths (bit_in x.values) → length ns ≡ length x.bits.sources
numbers_each x ns own is = ap length is ∙ length-numbers_from (bit_in x.values) 0 x.bits.widths ∙ own.each

pub have_read : (x : Witness) (ns : List ℕ) (ch : Choices) → AreReadable x.bits
    → ns ≡ numbers_of x.bits.widths (bit_in x.values) → HaveNumbers x.bits.sources ns ch
    → HaveNumbers x.bits.sources (numbers_read x) ch
have_read x ns ch own is have =
    record { same = have.same ∙ is ∙ read_in_order x own; others = have.others }

-- ---- choices

-- each source has a number of its width
fits : (net : Netlist) (ch : Choices) (xs : List Source) → AreNumbersOf (map (source_width net) xs) (map (chosen ch) xs)
    → AllByRecursion (λ y. chosen ch y < 2 ^ source_width net y) xs
fits net ch [] h = tt
fits net ch (x ∷ xs) h =
    (h.below 0, fits net ch xs (record { each = omega (arith, h.each); below = λ i. h.below (suc i) }))

-- so one that has none isn't there
absent : (net : Netlist) (ch : Choices) (xs : List Source) (x : Source)
    → AllByRecursion (λ y. chosen ch y < 2 ^ source_width net y) xs → 2 ^ source_width net x ≤ chosen ch x
    → AllByRecursion (λ y. y ≡ x → ⊥) xs
absent net ch [] x own high = tt
absent net ch (y ∷ ys) x own high =
    let P : Source → Type 0 = λ z. chosen ch z < 2 ^ source_width net z in
    (λ e. absurd (omega (arith, subst P e own.0, high)), absent net ch ys x own.1 high)

small : (net : Netlist) (ch : Choices) (xs : List Source) (ns : List ℕ) (x : Source)
    → AllByRecursion (λ y. chosen ch y < 2 ^ source_width net y) xs → HaveNumbers xs ns ch
    → chosen ch x < 2 ^ source_width net x
small net ch xs ns x own have = by (cases_lt (chosen ch x) (2 ^ source_width net x))
  where
    by : (chosen ch x < 2 ^ source_width net x) ⊎ (2 ^ source_width net x ≤ chosen ch x)
        → chosen ch x < 2 ^ source_width net x
    by (inl less) = less
    by (inr high) =
        let none = have.others x (absent net ch xs x own high) in
        omega (arith, none, pow_pos (source_width net x))

-- choices with the numbers of some run's are of the net
pub chosen_of_net : (net : Netlist) (cycle : ℕ) (xs : List Source) (ns : List ℕ) (ch : Choices)
    → AllByRecursion (IsChoice net cycle) xs → Chooses net xs ns → HaveNumbers xs ns ch → AreChoicesOf net ch
chosen_of_net net cycle xs ns ch choices some have =
    let F : List ℕ → Type 0 = AreNumbersOf (map (source_width net) xs) in
    let own = fits net ch xs (subst F (some.same ∙ sym have.same)
    (numbers_of_choice net cycle some.ch xs some.of_net choices)) in
    record {
      each_cycle = λ k i below. small net ch xs ns (s.Each i k) own have;
      once = λ i below. small net ch xs ns (s.Once i) own have;
      regs = λ r below. small net ch xs ns (s.RegStart r) own have;
      words = λ m w below. small net ch xs ns (s.WordStart m w) own have;
    }

pub read_choices : ReadChoicesAreTheNets
read_choices net cycle x ch bits chooses have =
    chosen_of_net net cycle x.bits.sources (numbers_read x) ch bits.sources chooses have
