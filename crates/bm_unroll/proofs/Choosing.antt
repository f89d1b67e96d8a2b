-- Numbers of sources and choices of runs.
use Rattle.std.specs.Prelude.{◌≡◌, refl, ℕ, zero, suc, ◌<◌, ◌^◌, ◌==◌, ◌&&◌, Bool, true, false}
use Rattle.std.specs.Prelude.{if◌then◌else◌, List, [], ◌∷◌, length, map, Some, slice_get, slice_index, slice_index_or}
use Rattle.std.specs.List.{AllByRecursion}
use Rattle.std.proofs.Common.{ap, sym, ◌∙◌, arith, subst, lit<}
use Rattle.std.proofs.lemmas.Bool.Decides.{nat_tests}
use Rattle.std.proofs.lemmas.Nat.{pow_pos}
use Rattle.std.proofs.lemmas.List.{length-map}
use Rattle.wn_net.specs.declared.parts.Input.{Input}
use Rattle.wn_net.specs.declared.parts.InputKind.TheVariants.{EachCycle, Once}
use Rattle.wn_net.specs.declared.parts.Init.{Init}
use Rattle.wn_net.specs.declared.parts.Init.TheVariants.{Free}
use Rattle.wn_net.specs.declared.parts.Reg.{Reg}
use Rattle.wn_net.specs.declared.parts.Mem.{Mem}
use Rattle.wn_net.specs.Given.{AreNumbersOf}
use Rattle.wn_net.specs.Net.{Netlist}
use Rattle.wn_run.specs.Runs.{Choices, AreChoicesOf}
use Rattle.bm_unroll.specs.declared.frames.Source.{Source}
use Rattle.bm_unroll.specs.declared.frames.Source.TheVariants as s
use Rattle.bm_unroll.specs.Frames.{AreChosen, AreDistinct, Chooses, IsChoice, chosen, source_width}
use Rattle.bm_unroll.proofs.Items.{get_within}

-- ---- from choices to numbers

-- an item of a list that isn't empty is of one that is there
mem_within : (ms : List Mem) (m w : ℕ) (x : Init)
    → slice_get (slice_index_or (map (λ x. x.init) ms) m []) w ≡ Some x → m < length ms
mem_within [] m w x e = absurd (ne e)
  where
    ne : slice_get {X = Init} [] w ≡ Some x → ⊥
    ne e = cc
mem_within (y ∷ ys) zero w x e = omega arith
mem_within (y ∷ ys) (suc m) w x e = let h = mem_within ys m w x e in omega arith

-- the number that is chosen for a source has its width
number_fits : (net : Netlist) (cycle : ℕ) (ch : Choices) (x : Source) → AreChoicesOf net ch → IsChoice net cycle x
    → chosen ch x < 2 ^ source_width net x
number_fits net cycle ch (s.Each i k) own h =
    own.each_cycle k i (omega (
      arith,
      get_within (map (λ (x : Input). x.kind) net.inputs) i EachCycle h.0,
      length-map net.inputs (λ (x : Input). x.kind),
    ))
number_fits net cycle ch (s.Once i) own h =
    own.once i (omega (
      arith,
      get_within (map (λ (x : Input). x.kind) net.inputs) i Once h,
      length-map net.inputs (λ (x : Input). x.kind),
    ))
number_fits net cycle ch (s.RegStart r) own h =
    own.regs r (omega (
      arith,
      get_within (map (λ (x : Reg). x.init) net.regs) r Free h,
      length-map net.regs (λ (x : Reg). x.init),
    ))
number_fits net cycle ch (s.WordStart m w) own h = own.words m w (mem_within net.mems m w Free h)

numbers_fit : (net : Netlist) (cycle : ℕ) (ch : Choices) (xs : List Source) → AreChoicesOf net ch
    → AllByRecursion (IsChoice net cycle) xs
    → (i : ℕ) → slice_index (map (chosen ch) xs) i < 2 ^ slice_index (map (source_width net) xs) i
numbers_fit net cycle ch [] own h i = lit< tt
numbers_fit net cycle ch (x ∷ xs) own h zero = number_fits net cycle ch x own h.0
numbers_fit net cycle ch (x ∷ xs) own h (suc i) = numbers_fit net cycle ch xs own h.1 i

pub numbers_of_choice : (net : Netlist) (cycle : ℕ) (ch : Choices) (xs : List Source) → AreChoicesOf net ch
    → AllByRecursion (IsChoice net cycle) xs → AreNumbersOf (map (source_width net) xs) (map (chosen ch) xs)
numbers_of_choice net cycle ch xs own h = record {
  each = length-map xs (chosen ch) ∙ sym (length-map xs (source_width net));
  below = numbers_fit net cycle ch xs own h;
}

-- ---- from numbers to choices

-- two sources are one
abbrev are_one : Source → Source → Bool
are_one (s.Each i k) (s.Each j l) = i == j && k == l
are_one (s.Once i) (s.Once j) = i == j
are_one (s.RegStart r) (s.RegStart t) = r == t
are_one (s.WordStart m w) (s.WordStart n v) = m == n && w == v
are_one x y = false

both : (a b : Bool) → (a && b) ≡ true → (a ≡ true) × (b ≡ true)
both true true e = (refl, refl)
both true false e = cc
both false b e = cc

equal_numbers : (a b : ℕ) → (a == b) ≡ true → a ≡ b
equal_numbers a b e = grind (arith, nat_tests)

equal_itself : (a : ℕ) → (a == a) ≡ true
equal_itself a = grind (arith, nat_tests)

one_is : (x y : Source) → are_one x y ≡ true → x ≡ y
one_is (s.Each i k) (s.Each j l) e =
    let h = both (i == j) (k == l) e in
    λ n. s.Each (equal_numbers i j h.0 n) (equal_numbers k l h.1 n)
one_is (s.Once i) (s.Once j) e = λ n. s.Once (equal_numbers i j e n)
one_is (s.RegStart r) (s.RegStart t) e = λ n. s.RegStart (equal_numbers r t e n)
one_is (s.WordStart m w) (s.WordStart k v) e =
    let h = both (m == k) (w == v) e in
    λ n. s.WordStart (equal_numbers m k h.0 n) (equal_numbers w v h.1 n)
one_is (s.Each i k) (s.Once j) e = cc
one_is (s.Each i k) (s.RegStart t) e = cc
one_is (s.Each i k) (s.WordStart n v) e = cc
one_is (s.Once i) (s.Each j l) e = cc
one_is (s.Once i) (s.RegStart t) e = cc
one_is (s.Once i) (s.WordStart n v) e = cc
one_is (s.RegStart r) (s.Each j l) e = cc
one_is (s.RegStart r) (s.Once j) e = cc
one_is (s.RegStart r) (s.WordStart n v) e = cc
one_is (s.WordStart m w) (s.Each j l) e = cc
one_is (s.WordStart m w) (s.Once j) e = cc
one_is (s.WordStart m w) (s.RegStart t) e = cc

one_itself : (x : Source) → are_one x x ≡ true
one_itself (s.Each i k) = λ n. equal_itself i n && equal_itself k n
one_itself (s.Once i) = equal_itself i
one_itself (s.RegStart r) = equal_itself r
one_itself (s.WordStart m w) = λ n. equal_itself m n && equal_itself w n

-- the number of a source, and 0 where it isn't there
abbrev number_at : List Source → List ℕ → Source → ℕ
number_at [] ns x = 0
number_at (y ∷ ys) [] x = 0
number_at (y ∷ ys) (n ∷ ns) x = if are_one y x then n else number_at ys ns x

abbrev choices_by : List Source → List ℕ → Choices
choices_by xs ns = record {
  each_cycle = λ k i. number_at xs ns (s.Each i k);
  once = λ i. number_at xs ns (s.Once i);
  regs = λ r. number_at xs ns (s.RegStart r);
  words = λ m w. number_at xs ns (s.WordStart m w);
}

chosen_is : (xs : List Source) (ns : List ℕ) (x : Source) → chosen (choices_by xs ns) x ≡ number_at xs ns x
chosen_is xs ns (s.Each i k) = refl
chosen_is xs ns (s.Once i) = refl
chosen_is xs ns (s.RegStart r) = refl
chosen_is xs ns (s.WordStart m w) = refl

rest_below : (w : ℕ) (ws : List ℕ) (n : ℕ) (ns : List ℕ) → AreNumbersOf (w ∷ ws) (n ∷ ns) → AreNumbersOf ws ns
rest_below w ws n ns h = record { each = omega (arith, h.each); below = λ i. h.below (suc i) }

number_small : (net : Netlist) (xs : List Source) (ns : List ℕ) (x : Source)
    → AreNumbersOf (map (source_width net) xs) ns → number_at xs ns x < 2 ^ source_width net x
number_small net [] ns x h = pow_pos (source_width net x)
number_small net (y ∷ ys) [] x h = pow_pos (source_width net x)
number_small net (y ∷ ys) (n ∷ ns) x h =
    by (are_one y x) refl
    (number_small net ys ns x (rest_below (source_width net y) (map (source_width net) ys) n ns h))
  where
    by : (b : Bool) → are_one y x ≡ b → number_at ys ns x < 2 ^ source_width net x
        → (if b then n else number_at ys ns x) < 2 ^ source_width net x
    by true e rest =
        let P : Source → Type 0 = λ z. n < 2 ^ source_width net z in
        subst P (one_is y x e) (h.below 0)
    by false e rest = rest

-- the numbers of the sources behind one are not those of it
numbers_behind : (y : Source) (n : ℕ) (ys : List Source) (ns : List ℕ) (xs : List Source)
    → AllByRecursion (λ z. y ≡ z → ⊥) xs
    → map (number_at (y ∷ ys) (n ∷ ns)) xs ≡ map (number_at ys ns) xs
numbers_behind y n ys ns [] h = refl
numbers_behind y n ys ns (x ∷ xs) h =
    λ i. here (are_one y x) refl i ∷ numbers_behind y n ys ns xs h.1 i
  where
    here : (b : Bool) → are_one y x ≡ b → (if b then n else number_at ys ns x) ≡ number_at ys ns x
    here true e = absurd (h.0 (one_is y x e))
    here false e = refl

numbers_back : (xs : List Source) (ns : List ℕ) → AreDistinct xs → length ns ≡ length xs
    → map (number_at xs ns) xs ≡ ns
numbers_back [] [] h e = refl
numbers_back [] (n ∷ ns) h e = absurd (omega (arith, e))
numbers_back (x ∷ xs) [] h e = absurd (omega (arith, e))
numbers_back (x ∷ xs) (n ∷ ns) h e =
    let first : number_at (x ∷ xs) (n ∷ ns) x ≡ n =
    ap (λ (b : Bool). if b then n else number_at xs ns x) (one_itself x) in
    λ i. first i ∷ (numbers_behind x n xs ns xs h.0 ∙ numbers_back xs ns h.1 (omega (arith, e))) i

map_same : (f g : Source → ℕ) (xs : List Source) → ((x : Source) → f x ≡ g x) → map f xs ≡ map g xs
map_same f g [] e = refl
map_same f g (x ∷ xs) e = λ i. e x i ∷ map_same f g xs e i

choice_of_numbers : (net : Netlist) (xs : List Source) (ns : List ℕ) → AreDistinct xs
    → AreNumbersOf (map (source_width net) xs) ns → Chooses net xs ns
choice_of_numbers net xs ns distinct h = record {
  ch = choices_by xs ns;
  of_net = record {
    each_cycle = λ k i below. number_small net xs ns (s.Each i k) h;
    once = λ i below. number_small net xs ns (s.Once i) h;
    regs = λ r below. number_small net xs ns (s.RegStart r) h;
    words = λ m w below. number_small net xs ns (s.WordStart m w) h;
  };
  same = map_same (chosen (choices_by xs ns)) (number_at xs ns) xs (chosen_is xs ns)
      ∙ numbers_back xs ns distinct (h.each ∙ length-map xs (source_width net));
}

-- both ways
pub are_chosen : (net : Netlist) (cycle : ℕ) (widths : List ℕ) (xs : List Source) → widths ≡ map (source_width net) xs
    → AllByRecursion (IsChoice net cycle) xs → AreDistinct xs → AreChosen net widths xs
are_chosen net cycle widths xs wide choices distinct =
    let P : List ℕ → Type 0 = λ ws. AreChosen net ws xs in
    subst P (sym wide) (record {
      number = λ ch own. numbers_of_choice net cycle ch xs own choices;
      choice = λ numbers h. choice_of_numbers net xs numbers distinct h;
    })
