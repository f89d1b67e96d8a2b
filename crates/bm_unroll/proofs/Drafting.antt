-- Drafts: a source more, and what stays.
use Rattle.std.specs.Prelude.{◌≡◌, refl, ℕ, ◌+◌, ◌<◌, ◌≤◌, List, [], ◌∷◌}
use Rattle.std.specs.Prelude.{◌++◌, length, map, take}
use Rattle.std.specs.Prelude.{slice_index}
use Rattle.std.specs.List.{AllByRecursion}
use Rattle.std.proofs.Common.{ap, sym, ◌∙◌, arith, subst}
use Rattle.std.proofs.lemmas.List.{length_push, map_push}
use Rattle.wn_net.specs.declared.parts.Input.{Input}
use Rattle.wn_net.specs.Net.{Netlist}
use Rattle.wn_net.specs.Changes.{AddsNodes, BuildsInput, IsBegun}
use Rattle.wn_net.proofs.Begun.{begun_more, begun_on, begun_same, longer_begun}
use Rattle.wn_net.proofs.Laws.{adds_none, built_input_node, grown_node, grown_value, grows_on, nodes_grow}
use Rattle.wn_run.specs.Runs.{Choices}
use Rattle.bm_unroll.specs.declared.frames.Source.{Source}
use Rattle.bm_unroll.specs.declared.draft.Draft.{Draft}
use Rattle.bm_unroll.specs.Frames.{AreDistinct, IsChoice, chosen, source_width}
use Rattle.bm_unroll.specs.Draft.{Agree, Extends, HasRoom, IsDraft, Means, rank}

-- ---- choices

pub agree_begun : (ch : Choices) (xs ys : List Source) (ns : List ℕ) → IsBegun xs ys → Agree ch ys ns
    → Agree ch xs ns
agree_begun ch [] ys ns h a = tt
agree_begun ch (x ∷ xs) [] ns h a = absurd (omega (arith, longer_begun (x ∷ xs) [] h))
agree_begun ch (x ∷ xs) (y ∷ ys) [] h a = absurd a
agree_begun ch (x ∷ xs) (y ∷ ys) (n ∷ ns) h a =
    (a.0 ∙ ap (chosen ch) (head h), agree_begun ch xs ys ns (tail h) a.1)
  where
    head : (y ∷ take (length xs) ys) ≡ (x ∷ xs) → y ≡ x
    head e = cc

    tail : (y ∷ take (length xs) ys) ≡ (x ∷ xs) → take (length xs) ys ≡ xs
    tail e = cc

pub agree_last : (ch : Choices) (xs : List Source) (s : Source) (ns : List ℕ) → Agree ch (xs ++ s ∷ []) ns
    → slice_index ns (length xs) ≡ chosen ch s
agree_last ch [] s [] a = absurd a
agree_last ch [] s (n ∷ ns) a = a.0
agree_last ch (x ∷ xs) s [] a = absurd a
agree_last ch (x ∷ xs) s (n ∷ ns) a = agree_last ch xs s ns a.1

-- ---- lists

all_push : {A : Type 0} (P : A → Type 0) (xs : List A) (x : A) → AllByRecursion P xs → P x
    → AllByRecursion P (xs ++ x ∷ [])
all_push P [] x h k = (k, tt)
all_push P (y ∷ ys) x h k = (h.0, all_push P ys x h.1 k)

distinct_push : (xs : List Source) (x : Source) → AreDistinct xs → AllByRecursion (λ y. y ≡ x → ⊥) xs
    → AreDistinct (xs ++ x ∷ [])
distinct_push [] x h k = (tt, tt)
distinct_push (y ∷ ys) x h k = (all_push (λ z. y ≡ z → ⊥) ys x h.0 k.0, distinct_push ys x h.1 k.1)

others_before : (bound : ℕ) (xs : List Source) (x : Source) → AllByRecursion (λ y. rank y < bound) xs
    → bound ≤ rank x
    → AllByRecursion (λ y. y ≡ x → ⊥) xs
others_before bound [] x h k = tt
others_before bound (y ∷ ys) x h k =
    (λ e. differ y (ap rank e) h.0, others_before bound ys x h.1 k)
  where
    differ : (z : Source) → rank z ≡ rank x → rank z < bound → ⊥
    differ z e low = absurd (omega (arith, e, low, k))

before_more : (bound more : ℕ) (xs : List Source) → bound ≤ more → AllByRecursion (λ y. rank y < bound) xs
    → AllByRecursion (λ y. rank y < more) xs
before_more bound more [] k h = tt
before_more bound more (y ∷ ys) k h = (omega (arith, h.0, k), before_more bound more ys k h.1)

-- ---- what stays

-- in all at most so many
pub extends_on : (a b c : Draft) (m n count : ℕ) → m + n ≤ count → Extends a b m → Extends b c n → Extends a c count
extends_on a b c m n count e h k = record {
  each = k.each;
  grows = grows_on a.net b.net c.net h.grows k.grows;
  sources = begun_on a.sources.items b.sources.items c.sources.items h.sources k.sources;
  few = omega (arith, h.few, k.few, e);
}

pub extends_more : (old new : Draft) (m n : ℕ) → m ≤ n → Extends old new m → Extends old new n
extends_more old new m n e h =
    record { each = h.each; grows = h.grows; sources = h.sources; few = omega (arith, h.few, e) }

-- what room is left
pub room_left : (old new : Draft) (m n count : ℕ) → m + n ≤ count → Extends old new m → HasRoom old count
    → HasRoom new n
room_left old new m n count e h r = record { each = h.each; few = omega (arith, h.few, r.few, e) }

pub room_less : (d : Draft) (m n : ℕ) → m ≤ n → HasRoom d n → HasRoom d m
room_less d m n e r = record { each = r.each; few = omega (arith, r.few, e) }

pub means_on : (old new : Draft) (count width : ℕ) (number : Choices → ℕ) (id : ℕ) → Extends old new count
    → Means old width number id → Means new width number id
means_on old new count width number id h m = record {
  there = grown_node old.net new.net width id h.grows m.there;
  value = λ ch g a.
      grown_value old.net new.net g id h.grows m.there.0
      ∙ m.value ch g (agree_begun ch old.sources.items new.sources.items g.inputs h.sources a);
}

-- ---- one source more

pub source_extends : (old new : Draft) (source : Source) (input : Input) (id : ℕ)
    → length old.net.inputs ≡ length old.sources.items
    → new.sources.items ≡ old.sources.items ++ source ∷ [] → BuildsInput old.net new.net input id
    → Extends old new 1
source_extends old new source input id each is built =
    let P : List Source → Type 0 = λ xs. IsBegun old.sources.items xs in
    record {
      each =
          omega (
            arith,
            ap length built.inputs,
            length_push old.net.inputs input,
            each,
            length_push old.sources.items source,
            ap length is,
          );
      grows = built.grows;
      sources = subst P (sym is) (begun_more old.sources.items (source ∷ []));
      few = omega (arith, length_push old.sources.items source, ap length is);
    }

pub source_means : (old new : Draft) (source : Source) (input : Input) (id : ℕ)
    → length old.net.inputs ≡ length old.sources.items
    → new.sources.items ≡ old.sources.items ++ source ∷ [] → BuildsInput old.net new.net input id
    → Means new input.width (λ ch. chosen ch source) id
source_means old new source input id each is built = record {
  there = built_input_node old.net new.net input id built;
  value = λ ch g a.
      let P : List Source → Type 0 = λ xs. Agree ch xs g.inputs in
      built.value g ∙ ap (slice_index g.inputs) each
      ∙ agree_last ch old.sources.items source g.inputs (subst P is a);
}

pub source_draft : (old new : Draft) (source : Source) (input : Input) (id : ℕ) (net : Netlist) (cycle bound : ℕ)
    → new.sources.items ≡ old.sources.items ++ source ∷ []
    → new.widths.items ≡ old.widths.items ++ input.width ∷ []
    → BuildsInput old.net new.net input id → IsDraft net cycle bound old → IsChoice net cycle source
    → input.width ≡ source_width net source → bound ≤ rank source
    → IsDraft net cycle (rank source + 1) new
source_draft old new source input id net cycle bound is wide built h choice width_is past =
    let xs = old.sources.items in
    let C : List Source → Type 0 = λ ys. AllByRecursion (IsChoice net cycle) ys in
    let D : List Source → Type 0 = λ ys. AreDistinct ys in
    let B : List Source → Type 0 = λ ys. AllByRecursion (λ y. rank y < rank source + 1) ys in
    record {
      no_regs = built.regs ∙ h.no_regs;
      no_mems = built.mems ∙ h.no_mems;
      inputs =
          ap (map (λ x. x.width)) built.inputs ∙ map_push (λ (x : Input). x.width) old.net.inputs input
          ∙ ap (λ ws. ws ++ input.width ∷ []) h.inputs ∙ sym wide;
      widths =
          wide ∙ (λ i. h.widths i ++ width_is i ∷ []) ∙ sym (map_push (source_width net) xs source)
          ∙ sym (ap (map (source_width net)) is);
      choices = subst C (sym is) (all_push (IsChoice net cycle) xs source h.choices choice);
      distinct = subst D (sym is) (distinct_push xs source h.distinct (others_before bound xs source h.before past));
      before =
          subst B (sym is)
          (all_push (λ y. rank y < rank source + 1) xs source
          (before_more bound (rank source + 1) xs (omega (arith, past)) h.before) (omega arith));
    }

-- ---- nodes alone

pub known_extends : (old new : Draft) → length old.net.inputs ≡ length old.sources.items
    → new.sources.items ≡ old.sources.items → AddsNodes old.net new.net → Extends old new 0
known_extends old new each is adds = record {
  each = ap length adds.inputs ∙ each ∙ sym (ap length is);
  grows = nodes_grow old.net new.net adds;
  sources = begun_same old.sources.items new.sources.items is;
  few = omega (arith, ap length is);
}

pub known_draft : (old new : Draft) (net : Netlist) (cycle bound : ℕ)
    → new.sources.items ≡ old.sources.items
    → new.widths.items ≡ old.widths.items → AddsNodes old.net new.net → IsDraft net cycle bound old
    → IsDraft net cycle bound new
known_draft old new net cycle bound is wide adds h =
    let C : List Source → Type 0 = λ ys. AllByRecursion (IsChoice net cycle) ys in
    let D : List Source → Type 0 = λ ys. AreDistinct ys in
    let B : List Source → Type 0 = λ ys. AllByRecursion (λ y. rank y < bound) ys in
    record {
      no_regs = adds.regs ∙ h.no_regs;
      no_mems = adds.mems ∙ h.no_mems;
      inputs = ap (map (λ x. x.width)) adds.inputs ∙ h.inputs ∙ sym wide;
      widths = wide ∙ h.widths ∙ sym (ap (map (source_width net)) is);
      choices = subst C (sym is) h.choices;
      distinct = subst D (sym is) h.distinct;
      before = subst B (sym is) h.before;
    }

-- what stands for an input or a start may stay as it is
pub extends_none : (d : Draft) (count : ℕ) → length d.net.inputs ≡ length d.sources.items → Extends d d count
extends_none d count each = record {
  each = each;
  grows = nodes_grow d.net d.net (adds_none d.net);
  sources = begun_same d.sources.items d.sources.items refl;
  few = omega arith;
}

-- the bound of a draft may be larger
pub draft_more : (net : Netlist) (cycle bound more : ℕ) (d : Draft) → bound ≤ more → IsDraft net cycle bound d
    → IsDraft net cycle more d
draft_more net cycle bound more d k h = record {
  no_regs = h.no_regs;
  no_mems = h.no_mems;
  inputs = h.inputs;
  widths = h.widths;
  choices = h.choices;
  distinct = h.distinct;
  before = before_more bound more d.sources.items k h.before;
}
