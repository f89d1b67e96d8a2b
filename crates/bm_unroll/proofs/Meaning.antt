-- Nodes that have numbers under choices.
use Rattle.std.specs.Prelude.{◌≡◌, refl, ℕ, ◌<◌, ◌≤◌, List, [], ◌∷◌, ◌++◌, length, map}
use Rattle.std.specs.Prelude.{slice_index}
use Rattle.std.proofs.Common.{ap, sym, ◌∙◌, arith, subst}
use Rattle.std.proofs.lemmas.List.{get_or-map, length-map, map_push}
use Rattle.wn_net.specs.Value.{Given}
use Rattle.wn_net.specs.Net.{Netlist, AreNodes, AreNodesOf, width_at, value_at}
use Rattle.wn_net.specs.Changes.{Grows}
use Rattle.wn_net.proofs.Laws.{grown_there, grown_nodes, grown_value}
use Rattle.wn_run.specs.Runs.{Choices}
use Rattle.wn_mem.specs.Words.{words_width, numbers_of}
use Rattle.bm_unroll.specs.Memories.{HaveWords}
use Rattle.bm_unroll.specs.Cycle.{widths_at}
use Rattle.bm_unroll.proofs.Copying.{are_nodes, node_in, nodes_push, width_here}
use Rattle.bm_unroll.proofs.Writing.{are_words, first_width}
use Rattle.bm_unroll.specs.declared.draft.Draft.{Draft}
use Rattle.bm_unroll.specs.Draft.{AreWordLists, Extends, Means, MeansAll, MeansMems}
use Rattle.bm_unroll.proofs.Drafting.{agree_begun}

-- ---- a net that grows

grown_ids : (old new : Netlist) (ids : List ℕ) → Grows old new → AreNodes old ids → AreNodes new ids
grown_ids old new [] h own = tt
grown_ids old new (x ∷ xs) h own = (grown_there old new x h own.0, grown_ids old new xs h own.1)

grown_widths : (old new : Netlist) (ids : List ℕ) → Grows old new → AreNodes old ids
    → widths_at new ids ≡ widths_at old ids
grown_widths old new [] h own = refl
grown_widths old new (x ∷ xs) h own = λ i. h.widths x own.0 i ∷ grown_widths old new xs h own.1 i

grown_numbers : (old new : Netlist) (g : Given) (ids : List ℕ) → Grows old new → AreNodes old ids
    → numbers_of new g ids ≡ numbers_of old g ids
grown_numbers old new g [] h own = refl
grown_numbers old new g (x ∷ xs) h own =
    λ i. grown_value old new g x h own.0 i ∷ grown_numbers old new g xs h own.1 i

grown_words : (old new : Netlist) (words : List ℕ) → Grows old new → HaveWords old words
    → words_width new words ≡ words_width old words
grown_words old new [] h own = absurd (omega (arith, own.0))
grown_words old new (x ∷ xs) h own = h.widths x own.1.0.0

grown_memory : (old new : Netlist) (words : List ℕ) → Grows old new → HaveWords old words → HaveWords new words
grown_memory old new words h own =
    let P : ℕ → Type 0 = λ w. AreNodesOf new w words in (
      own.0,
      subst P (sym (grown_words old new words h own)) (grown_nodes old new (words_width old words) words h own.1),
    )

grown_mems : (old new : Netlist) (mems : List (List ℕ)) → Grows old new → AreWordLists old mems → AreWordLists new mems
grown_mems old new [] h own = tt
grown_mems old new (m ∷ ms) h own = (grown_memory old new m h own.0, grown_mems old new ms h own.1)

grown_mem_widths : (old new : Netlist) (mems : List (List ℕ)) → Grows old new → AreWordLists old mems
    → map (words_width new) mems ≡ map (words_width old) mems
grown_mem_widths old new [] h own = refl
grown_mem_widths old new (m ∷ ms) h own =
    λ i. grown_words old new m h own.0 i ∷ grown_mem_widths old new ms h own.1 i

grown_mem_numbers : (old new : Netlist) (g : Given) (mems : List (List ℕ)) → Grows old new → AreWordLists old mems
    → map (numbers_of new g) mems ≡ map (numbers_of old g) mems
grown_mem_numbers old new g [] h own = refl
grown_mem_numbers old new g (m ∷ ms) h own =
    let words = are_nodes old (words_width old m) m own.0.1 in
    λ i. grown_numbers old new g m h words i ∷ grown_mem_numbers old new g ms h own.1 i

-- ---- several nodes

pub meant_none : (d : Draft) → MeansAll d [] (λ ch. []) []
meant_none d = record { there = tt; wide = refl; values = λ ch g a. refl }

pub meant_on : (old new : Draft) (count : ℕ) (widths : List ℕ) (numbers : Choices → List ℕ) (ids : List ℕ)
    → Extends old new count → MeansAll old widths numbers ids → MeansAll new widths numbers ids
meant_on old new count widths numbers ids h m = record {
  there = grown_ids old.net new.net ids h.grows m.there;
  wide = grown_widths old.net new.net ids h.grows m.there ∙ m.wide;
  values = λ ch g a.
      grown_numbers old.net new.net g ids h.grows m.there
      ∙ m.values ch g (agree_begun ch old.sources.items new.sources.items g.inputs h.sources a);
}

-- widths and numbers by other words
pub meant_as : (d : Draft) (widths others : List ℕ) (numbers same : Choices → List ℕ) (ids : List ℕ)
    → widths ≡ others → ((ch : Choices) → numbers ch ≡ same ch) → MeansAll d widths numbers ids
    → MeansAll d others same ids
meant_as d widths others numbers same ids e is m =
    record { there = m.there; wide = m.wide ∙ e; values = λ ch g a. m.values ch g a ∙ is ch }

-- one more
pub meant_next : (old new : Draft) (count : ℕ) (widths more : List ℕ) (numbers all : Choices → List ℕ)
    (ids longer : List ℕ) (width : ℕ) (number : Choices → ℕ) (id : ℕ)
    → Extends old new count → MeansAll old widths numbers ids → Means new width number id
    → more ≡ widths ++ width ∷ [] → ((ch : Choices) → all ch ≡ numbers ch ++ number ch ∷ [])
    → longer ≡ ids ++ id ∷ [] → MeansAll new more all longer
meant_next old new count widths more numbers all ids longer width number id h m one wide is pushed =
    let k = meant_on old new count widths numbers ids h m in
    let P : List ℕ → Type 0 = λ xs. AreNodes new.net xs in
    record {
      there = subst P (sym pushed) (nodes_push new.net ids id k.there one.there.0);
      wide =
          ap (widths_at new.net) pushed ∙ map_push (width_at new.net) ids id
          ∙ (λ i. k.wide i ++ one.there.1 i ∷ []) ∙ sym wide;
      values = λ ch g a.
          ap (numbers_of new.net g) pushed ∙ map_push (value_at new.net g) ids id
          ∙ (λ i. k.values ch g a i ++ one.value ch g a i ∷ []) ∙ sym (is ch);
    }

pub meant_long : (d : Draft) (widths : List ℕ) (numbers : Choices → List ℕ) (ids : List ℕ)
    → MeansAll d widths numbers ids → length ids ≡ length widths
meant_long d widths numbers ids m = sym (length-map ids (width_at d.net)) ∙ ap length m.wide

-- one of them
pub meant_at : (d : Draft) (widths : List ℕ) (numbers : Choices → List ℕ) (ids : List ℕ) (i : ℕ)
    → MeansAll d widths numbers ids → i < length ids
    → Means d (slice_index widths i) (λ ch. slice_index (numbers ch) i) (slice_index ids i)
meant_at d widths numbers ids i m below =
    let long : i < length (widths_at d.net ids) = omega (arith, length-map ids (width_at d.net)) in
    record {
      there = (
        node_in d.net ids i 0 m.there below,
        sym (width_here d.net ids i 0 long) ∙ ap (λ ws. slice_index ws i) m.wide,
      );
      value = λ ch g a.
          sym (get_or-map (value_at d.net g) ids i 0 0 below) ∙ ap (λ vs. slice_index vs i) (m.values ch g a);
    }

-- ---- the words of memories

pub mems_none : (d : Draft) → MeansMems d [] (λ ch. []) []
mems_none d = record { there = tt; wide = refl; values = λ ch g a. refl }

pub mems_on : (old new : Draft) (count : ℕ) (widths : List ℕ) (numbers : Choices → List (List ℕ)) (mems : List (List
    ℕ)) → Extends old new count → MeansMems old widths numbers mems → MeansMems new widths numbers mems
mems_on old new count widths numbers mems h m = record {
  there = grown_mems old.net new.net mems h.grows m.there;
  wide = grown_mem_widths old.net new.net mems h.grows m.there ∙ m.wide;
  values = λ ch g a.
      grown_mem_numbers old.net new.net g mems h.grows m.there
      ∙ m.values ch g (agree_begun ch old.sources.items new.sources.items g.inputs h.sources a);
}

pub mems_as : (d : Draft) (widths others : List ℕ) (numbers same : Choices → List (List ℕ)) (mems : List (List ℕ))
    → widths ≡ others → ((ch : Choices) → numbers ch ≡ same ch) → MeansMems d widths numbers mems
    → MeansMems d others same mems
mems_as d widths others numbers same mems e is m =
    record { there = m.there; wide = m.wide ∙ e; values = λ ch g a. m.values ch g a ∙ is ch }

mems_push : (net : Netlist) (mems : List (List ℕ)) (words : List ℕ) → AreWordLists net mems → HaveWords net words
    → AreWordLists net (mems ++ words ∷ [])
mems_push net [] words h k = (k, tt)
mems_push net (m ∷ ms) words h k = (h.0, mems_push net ms words h.1 k)

-- all of one width
words_of_width : (net : Netlist) {X : Type 0} (width : ℕ) (xs : List X) (ids : List ℕ) → AreNodes net ids
    → widths_at net ids ≡ map (λ x. width) xs → AreNodesOf net width ids
words_of_width net width xs [] there e = tt
words_of_width net width [] (id ∷ ids) there e = absurd (ne e)
  where
    ne : width_at net id ∷ widths_at net ids ≡ [] → ⊥
    ne e = cc
words_of_width net {X} width (x ∷ xs) (id ∷ ids) there e =
    ((there.0, head e), words_of_width net width xs ids there.1 (tail e))
  where
    head : (width_at net id ∷ widths_at net ids) ≡ (width ∷ map (λ (x : X). width) xs) → width_at net id ≡ width
    head e = cc

    tail : (width_at net id ∷ widths_at net ids) ≡ (width ∷ map (λ (x : X). width) xs)
        → widths_at net ids ≡ map (λ (x : X). width) xs
    tail e = cc

pub mems_next : (old new : Draft) (count : ℕ) (widths more : List ℕ) (numbers all : Choices → List (List ℕ))
    (mems longer : List (List ℕ)) {X : Type 0} (xs : List X) (width : ℕ) (number : Choices → List ℕ) (words : List ℕ)
    → Extends old new count → MeansMems old widths numbers mems → 1 ≤ length xs
    → MeansAll new (map (λ x. width) xs) number words
    → more ≡ widths ++ width ∷ [] → ((ch : Choices) → all ch ≡ numbers ch ++ number ch ∷ [])
    → longer ≡ mems ++ words ∷ [] → MeansMems new more all longer
mems_next old new count widths more numbers all mems longer {X} xs width number words h m some one wide is pushed =
    let k = mems_on old new count widths numbers mems h m in
    let P : List (List ℕ) → Type 0 = λ ms. AreWordLists new.net ms in
    let long : 1 ≤ length words = omega (
      arith,
      meant_long new (map (λ (x : X). width) xs) number words one,
      length-map xs (λ (x : X). width),
      some,
    ) in
    let are = words_of_width new.net width xs words one.there one.wide in
    record {
      there = subst P (sym pushed)
          (mems_push new.net mems words k.there (long, are_words new.net width words long are));
      wide =
          ap (map (words_width new.net)) pushed ∙ map_push (words_width new.net) mems words
          ∙ (λ i. k.wide i ++ first_width new.net width words long are i ∷ []) ∙ sym wide;
      values = λ ch g a.
          ap (map (numbers_of new.net g)) pushed ∙ map_push (numbers_of new.net g) mems words
          ∙ (λ i. k.values ch g a i ++ one.values ch g a i ∷ []) ∙ sym (is ch);
    }
