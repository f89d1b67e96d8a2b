-- Writes that lead from the words of memories to cells, where nodes are added and cells are written.
use Rattle.std.specs.Prelude.{◌≡◌, refl, ℕ, ◌+◌, ◌<◌, ◌≤◌, ◌==◌, ◌&&◌, nat_le, nat_lt, Bool, true, false}
use Rattle.std.specs.Prelude.{List, [], ◌∷◌, ◌++◌, length, map, slice_index, Option, Some, None, IfSome, if◌then◌else◌}
use Rattle.std.specs.List.{AllByRecursion}
use Rattle.std.proofs.Common.{ap, sym, ◌∙◌, arith, subst, ◌⊎◌, inl, inr}
use Rattle.std.proofs.lemmas.Bool.Decides.{nat_tests}
use Rattle.fv_bits.specs.Bits.{masked}
use Rattle.wn_net.specs.declared.parts.Input.{Input}
use Rattle.wn_net.specs.declared.parts.Reg.{Reg}
use Rattle.wn_net.specs.declared.parts.Mem.{Mem}
use Rattle.wn_net.specs.declared.parts.MemWrite.{MemWrite}
use Rattle.wn_net.specs.Value.{Given, word_at, words_of}
use Rattle.wn_net.specs.Given.{AreMemsOf, AreNumbersOf, IsGiven}
use Rattle.wn_net.specs.Net.{Netlist, IsWriteOf, value_at, width_at}
use Rattle.wn_net.specs.Changes.{AddsNodes, mem_width}
use Rattle.wn_net.proofs.Laws.{value_on}
use Rattle.wn_mem.proofs.Memories.{words_long}
use Rattle.wn_chain.specs.Writes.{written_by}
use Rattle.wn_chain.proofs.Behind.{written_long, written_more}
use Rattle.wn_chain.proofs.Chains.{push_write, writes_on, written_on}
use Rattle.vl_lower_assign.specs.declared.slot.Holder.{Holder}
use Rattle.vl_lower_assign.specs.declared.slot.Holder.TheVariants as holder
use Rattle.vl_lower_assign.specs.declared.slot.Slot.{Slot}
use Rattle.vl_lower_assign.specs.declared.track.Track.{Track}
use Rattle.vl_lower_assign.specs.declared.track.WordsWrite.{WordsWrite}
use Rattle.vl_lower_assign.specs.Slots.{AreCells, Stores, Writes, is_among}
use Rattle.vl_lower_assign.specs.Tracks.{AreOff, AreTracks, FollowAll, FollowWrite, IsOneMore, LeadTo, track_at}
use Rattle.vl_lower_assign.proofs.Places.{word_written}

-- numbers of a net with more nodes are numbers of the old one
pub given_back : (old new : Netlist) (g : Given) → AddsNodes old new → IsGiven new g → IsGiven old g
given_back old new g adds given =
    let P : List Input → Type 0 = λ xs. AreNumbersOf (map (λ i. i.width) xs) g.inputs in
    let Q : List Reg → Type 0 = λ xs. AreNumbersOf (map (λ r. r.width) xs) g.state.regs in
    let R : List Mem → Type 0 = λ xs. AreMemsOf xs g.state.mems in
    record {
      inputs = subst P adds.inputs given.inputs;
      state = record { regs = subst Q adds.regs given.state.regs; mems = subst R adds.mems given.state.mems };
    }

width_same : (old new : Netlist) (m : ℕ) → AddsNodes old new → mem_width new m ≡ mem_width old m
width_same old new m adds = ap (λ (ms : List Mem). slice_index (map (λ (x : Mem). x.width) ms) m) adds.mems

-- the words behind writes are the same where there are more nodes
words_same : (old new : Netlist) (g : Given) (m : ℕ) (ws : List MemWrite) → AddsNodes old new
    → AllByRecursion (IsWriteOf old (mem_width old m)) ws
    → written_by new g (mem_width new m) (words_of g m) ws ≡ written_by old g (mem_width old m) (words_of g m) ws
words_same old new g m ws adds fit =
    ap (λ w. written_by new g w (words_of g m) ws) (width_same old new m adds)
    ∙ written_on old new g (mem_width old m) (words_of g m) ws adds fit

leads_on : (old new : Netlist) (cells : List ℕ) (m first count : ℕ) (ws : List MemWrite) → AddsNodes old new
    → AreCells old cells → LeadTo old cells m first count ws → LeadTo new cells m first count ws
leads_on old new cells m first count ws adds own h = record {
  there = omega (arith, h.there, ap (λ (ms : List Mem). length ms) adds.mems);
  words = ap (λ (ms : List Mem). slice_index (map (λ (x : Mem). x.words) ms) m) adds.mems ∙ h.words;
  some = h.some;
  within = h.within;
  width =
      adds.keeps.widths (slice_index cells first) (own first (omega (arith, h.some, h.within))) ∙ h.width
      ∙ sym (width_same old new m adds);
  fit = writes_on old new (mem_width old m) (mem_width new m) ws adds (width_same old new m adds) h.fit;
  numbers = λ g k given less.
      value_on old new g (slice_index cells (first + k)) adds (own (first + k) (omega (arith, less, h.within)))
      ∙ h.numbers g k (given_back old new g adds given) less
      ∙ ap (λ us. word_at us k) (sym (words_same old new g m ws adds h.fit));
}

-- where none of the cells is another node
leads_same : (net : Netlist) (before after : List ℕ) (m first count : ℕ) (ws : List MemWrite)
    → length after ≡ length before
    → ((k : ℕ) → k < count → slice_index after (first + k) ≡ slice_index before (first + k))
    → LeadTo net before m first count ws → LeadTo net after m first count ws
leads_same net before after m first count ws each same h =
    let front : first + 0 ≡ first = omega arith in
    let here : slice_index after first ≡ slice_index before first =
    ap (slice_index after) (sym front) ∙ same 0 (omega (arith, h.some)) ∙ ap (slice_index before) front in
    record {
      there = h.there;
      words = h.words;
      some = h.some;
      within = omega (arith, h.within, each);
      width = ap (width_at net) here ∙ h.width;
      fit = h.fit;
      numbers = λ g k given less. ap (value_at net g) (same k less) ∙ h.numbers g k given less;
    }

-- and where they are all written
leads_more : (old new : Netlist) (before after : List ℕ) (m first count w : ℕ) (ws : List MemWrite) (x : MemWrite)
    → AddsNodes old new → w ≡ mem_width old m → length after ≡ length before
    → width_at new (slice_index after first) ≡ w → IsWriteOf new w x
    → ((g : Given) (k : ℕ) → IsGiven old g → k < count
    → value_at new g (slice_index after (first + k))
    ≡ (if (value_at new g x.enable == 1) && (k == value_at new g x.addr)
    then masked w (value_at new g x.mask) (value_at old g (slice_index before (first + k))) (value_at new g x.value)
    else value_at old g (slice_index before (first + k))))
    → LeadTo old before m first count ws → LeadTo new after m first count (ws ++ x ∷ [])
leads_more old new before after m first count w ws x adds e each wide fits stored h =
    let W : ℕ = mem_width new m in
    let same : w ≡ W = e ∙ sym (width_same old new m adds) in
    record {
      there = omega (arith, h.there, ap (λ (ms : List Mem). length ms) adds.mems);
      words = ap (λ (ms : List Mem). slice_index (map (λ (y : Mem). y.words) ms) m) adds.mems ∙ h.words;
      some = h.some;
      within = omega (arith, h.within, each);
      width = wide ∙ same;
      fit =
          push_write new W ws x
          (writes_on old new (mem_width old m) W ws adds (width_same old new m adds) h.fit)
          (subst (λ n. IsWriteOf new n x) same fits);
      numbers = λ g k given less.
          let before_given = given_back old new g adds given in
          let us = written_by new g W (words_of g m) ws in
          let here : value_at old g (slice_index before (first + k)) ≡ slice_index us k =
          h.numbers g k before_given less ∙ ap (λ vs. word_at vs k) (sym (words_same old new g m ws adds h.fit)) in
          let enough : k < length us =
          omega (
            arith,
            less,
            written_long new g W (words_of g m) ws,
            h.words,
            words_long old.mems g.state.mems m before_given.state.mems h.there,
          ) in
          stored g k before_given less
          ∙ (λ i. if (value_at new g x.enable == 1) && (k == value_at new g x.addr)
          then masked (same i) (value_at new g x.mask) (here i) (value_at new g x.value) else here i)
          ∙ sym (word_written W us (value_at new g x.enable) (value_at new g x.addr) (value_at new g x.mask)
          (value_at new g x.value) k enough)
          ∙ ap (λ vs. word_at vs k) (sym (written_more new g W (words_of g m) ws x));
    }

-- ---- all of them

pub if_some : {A : Type 0} {P Q : A → Type 0} (o : Option A) → ((x : A) → P x → Q x) → IfSome o P → IfSome o Q
if_some None f h = h
if_some (Some x) f h = f x h

pub known_leads : {A : Type 0} (P : A → Type 0) (o : Option A) (x : A) → o ≡ Some x → IfSome o P → P x
known_leads {A = A} P o x e h = subst (λ (u : Option A). IfSome u P) e h

pub no_tracks : (net : Netlist) (cells : List ℕ) → AreTracks net cells []
no_tracks net cells = record {
  each = λ i less. absurd (omega (arith, less));
  apart = λ i j less below. absurd (omega (arith, below));
}

pub tracks_on : (old new : Netlist) (cells : List ℕ) (ts : List Track) → AddsNodes old new → AreCells old cells
    → AreTracks old cells ts → AreTracks new cells ts
tracks_on old new cells ts adds own h = record {
  each = λ i less.
      let t = track_at ts i in
      if_some t.writes (λ ws. leads_on old new cells i t.first t.count ws adds own) (h.each i less);
  apart = h.apart;
}

module _ (old new : Netlist) (before after : List ℕ) (path : Option ℕ) (slot : Slot) (value : ℕ)
    (made : Option WordsWrite) (own : AreCells old before) (one : Writes old new before after path slot value) where
  -- of which no cell was written
  off_leads : (first count m : ℕ) (t : Track) (ws : List MemWrite)
      → ((i : ℕ) → (i < first) ⊎ (first + count ≤ i) → is_among slot.holder i ≡ false)
      → AreOff first count t.first t.count → LeadTo old before m t.first t.count ws
      → LeadTo new after m t.first t.count ws
  off_leads first count m t ws among off h =
      leads_same new before after m t.first t.count ws one.alike.each
      (λ k less. one.kept (t.first + k) (among (t.first + k) (side k less off)))
      (leads_on old new before m t.first t.count ws one.adds own h)
    where
      side : (k : ℕ) → k < t.count → AreOff first count t.first t.count
          → (t.first + k < first) ⊎ (first + count ≤ t.first + k)
      side k less (inl p) = inl (omega (arith, less, p))
      side k less (inr p) = inr (omega (arith, less, p))

  all_follow : (first count : ℕ) (ts us : List Track) → FollowAll first count made ts us
      → ((i : ℕ) → (i < first) ⊎ (first + count ≤ i) → is_among slot.holder i ≡ false)
      → ((m : ℕ) (t : Track) (ws : List MemWrite) → IsOneMore made t ws
      → IfSome t.writes (LeadTo old before m t.first t.count) → LeadTo new after m t.first t.count ws)
      → AreTracks old before ts → AreTracks new after us
  all_follow first count ts us follow among more h = record {
    each = λ i less.
        let t = track_at ts i in
        let u = track_at us i in
        let below : i < length ts = omega (arith, less, follow.many) in
        let f = follow.each i below in
        let place : LeadTo new after i t.first t.count ≡ LeadTo new after i u.first u.count =
        (λ j. LeadTo new after i (sym f.first_is j) (sym f.count_is j)) in
        subst (λ (P : List MemWrite → Type 0). IfSome u.writes P) place
        (if_some u.writes (λ ws is. one_follows i t ws is (h.each i below)) f.writes);
    apart = λ i j less below.
        let f = follow.each i (omega (arith, less, below, follow.many)) in
        let k = follow.each j (omega (arith, below, follow.many)) in
        omega (arith, f.first_is, f.count_is, k.first_is, h.apart i j less (omega (arith, below, follow.many)));
  }
    where
      one_follows : (m : ℕ) (t : Track) (ws : List MemWrite)
          → ((t.writes ≡ Some ws) × AreOff first count t.first t.count) ⊎ IsOneMore made t ws
          → IfSome t.writes (LeadTo old before m t.first t.count) → LeadTo new after m t.first t.count ws
      one_follows m t ws (inl p) own_leads =
          off_leads first count m t ws among p.1
          (known_leads (LeadTo old before m t.first t.count) t.writes ws p.0 own_leads)
      one_follows m t ws (inr p) own_leads = more m t ws p own_leads

  module _ (stores : IfSome made (Stores old new before after slot.width slot.holder)) where
    -- with a write more, to its words
    more_leads : (m : ℕ) (t : Track) (ws : List MemWrite) → IsOneMore made t ws
        → IfSome t.writes (LeadTo old before m t.first t.count) → LeadTo new after m t.first t.count ws
    more_leads m t ws p own_leads =
        let first = p.one.first in
        let count = p.one.count in
        let x = p.one.write in
        let s : Stores old new before after slot.width slot.holder p.one =
        known_leads (Stores old new before after slot.width slot.holder) made p.one p.made_is stores in
        let was : LeadTo old before m t.first t.count p.before =
        known_leads (LeadTo old before m t.first t.count) t.writes p.before p.known own_leads in
        let h : LeadTo old before m first count p.before =
        subst (λ n. LeadTo old before m first n p.before) p.count_is
        (subst (λ n. LeadTo old before m n t.count p.before) p.first_is was) in
        let wide : slot.width ≡ mem_width old m = sym s.wide ∙ h.width in
        let last : width_at new (slice_index after first) ≡ slot.width =
        (one.alike.node first (omega (arith, h.some, h.within))).1 ∙ s.wide in
        let now : LeadTo new after m first count (p.before ++ x ∷ []) =
        leads_more old new before after m first count slot.width p.before x one.adds wide one.alike.each last s.fits
        s.numbers h in
        subst (λ us. LeadTo new after m t.first t.count us) (sym p.all)
        (subst (λ n. LeadTo new after m t.first n (p.before ++ x ∷ [])) (sym p.count_is)
        (subst (λ n. LeadTo new after m n count (p.before ++ x ∷ [])) (sym p.first_is) now))

    follow_by : (h : Holder) → slot.holder ≡ h → (ts us : List Track) → FollowWrite h made ts us
        → AreTracks old before ts → AreTracks new after us
    follow_by (holder.Cell at) e ts us follow own_tracks =
        all_follow at 1 ts us follow
        (λ i off. ap (λ (h : Holder). is_among h i) e ∙ other i off)
        more_leads own_tracks
      where
        other : (i : ℕ) → (i < at) ⊎ (at + 1 ≤ i) → (i == at) ≡ false
        other i (inl p) = grind (arith, nat_tests, p)
        other i (inr p) = grind (arith, nat_tests, p)
    follow_by (holder.Word first count address) e ts us follow own_tracks =
        all_follow first count ts us follow
        (λ i off. ap (λ (h : Holder). is_among h i) e ∙ other i off)
        more_leads own_tracks
      where
        other : (i : ℕ) → (i < first) ⊎ (first + count ≤ i) → (nat_le first i && nat_lt i (first + count)) ≡ false
        other i (inl p) =
            let no : nat_le first i ≡ false = grind (arith, nat_tests, p) in
            ap (λ b. b && nat_lt i (first + count)) no
        other i (inr p) =
            let past : nat_lt i (first + count) ≡ false = grind (arith, nat_tests, p) in
            both (nat_le first i) (nat_lt i (first + count)) past
          where
            both : (b d : Bool) → d ≡ false → (b && d) ≡ false
            both true d q = q
            both false d q = refl
    follow_by holder.Nowhere e ts us follow own_tracks =
        subst (λ (xs : List Track). AreTracks new after xs) (sym follow) (record {
          each = λ i less.
              let t = track_at ts i in
              if_some t.writes (λ ws h. leads_same new before after i t.first t.count ws one.alike.each
              (λ k below. one.kept (t.first + k) (ap (λ (x : Holder). is_among x (t.first + k)) e))
              (leads_on old new before i t.first t.count ws one.adds own h)) (own_tracks.each i less);
          apart = own_tracks.apart;
        })

    pub tracks_written : (ts us : List Track) → FollowWrite slot.holder made ts us → AreTracks old before ts
        → AreTracks new after us
    tracks_written = follow_by slot.holder refl
