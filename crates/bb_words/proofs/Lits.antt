-- Lists of literals in a graph to which gates are added.
use Rattle.std.specs.Prelude.{◌≡◌, refl, ℕ, zero, suc, ◌+◌, ◌<◌, Bool, List}
use Rattle.std.specs.Prelude.{[], ◌∷◌, ◌++◌, length}
use Rattle.std.specs.Prelude.{map, drop, slice_index_or}
use Rattle.std.proofs.Common.{ap, sym, ◌∙◌, arith}
use Rattle.std.proofs.lemmas.List.{drop_more, drop-map}
use Rattle.bb_aig.specs.declared.node.AigNode.{AigNode}
use Rattle.bb_aig.specs.Graph.{IsLit, lit_at}
use Rattle.bb_aig.specs.Gates.{Meanings, Grows, IsMade, AreLits, bits, AreMade}
use Rattle.bb_aig.proofs.Growth.{lit_on}

pub lit_in : (graph : List AigNode) (lits : List ℕ) (i d : ℕ) → AreLits graph lits → i < length lits
    → IsLit graph (slice_index_or lits i d)
lit_in graph [] i d h below = absurd (omega arith)
lit_in graph (l ∷ ls) zero d h below = h.0
lit_in graph (l ∷ ls) (suc i) d h below = lit_in graph ls i d h.1 (omega arith)

pub lits_on : (old new : List AigNode) (lits : List ℕ) → Grows old new → AreLits old lits → AreLits new lits
lits_on old new [] g h = tt
lits_on old new (l ∷ ls) g h = (lit_on old new l g h.0, lits_on old new ls g h.1)

pub bits_on : (old new : List AigNode) (x : ℕ → Bool) (lits : List ℕ) → Grows old new → AreLits old lits
    → bits new x lits ≡ bits old x lits
bits_on old new x [] g h = refl
bits_on old new x (l ∷ ls) g h =
    ap (λ b. b ∷ bits new x ls) (g.kept x l h.0) ∙ ap (λ bs. lit_at old x l ∷ bs) (bits_on old new x ls g h.1)

pub lits_push : (graph : List AigNode) (lits : List ℕ) (l : ℕ) → AreLits graph lits → IsLit graph l
    → AreLits graph (lits ++ l ∷ [])
lits_push graph [] l h k = (k, tt)
lits_push graph (a ∷ ls) l h k = (h.0, lits_push graph ls l h.1 k)

pub are_made_on : (old new : List AigNode) (F : Meanings) (lits : List ℕ) → Grows old new → AreMade old F lits
    → AreMade new F lits
are_made_on old new F lits g h =
    record { there = lits_on old new lits g h.there; value = λ x. bits_on old new x lits g h.there ∙ h.value x }

pub are_made_by : (graph : List AigNode) (F H : Meanings) (lits : List ℕ) → ((x : ℕ → Bool) → F x ≡ H x)
    → AreMade graph F lits → AreMade graph H lits
are_made_by graph F H lits e m = record { there = m.there; value = λ x. m.value x ∙ e x }

-- the bit at a place, with those behind it
pub bit_here : (graph : List AigNode) (x : ℕ → Bool) (lits : List ℕ) (i d : ℕ) → i < length lits
    → drop i (bits graph x lits) ≡ lit_at graph x (slice_index_or lits i d) ∷ drop (i + 1) (bits graph x lits)
bit_here graph x lits i d below =
    drop-map (lit_at graph x) i lits ∙ ap (map (lit_at graph x)) (drop_more lits i d below)
    ∙ ap (λ bs. lit_at graph x (slice_index_or lits i d) ∷ bs) (sym (drop-map (lit_at graph x) (i + 1) lits))

-- a literal that was there means what it meant
pub meant : (old now : List AigNode) (l : ℕ) → Grows old now → IsLit old l → IsMade now (λ x. lit_at old x l) l
meant old now l g h = record { there = lit_on old now l g h; value = λ x. g.kept x l h }

-- and one that is there what it means now
pub means_itself : (now : List AigNode) (l : ℕ) → IsLit now l → IsMade now (λ x. lit_at now x l) l
means_itself now l h = record { there = h; value = λ x. refl }
