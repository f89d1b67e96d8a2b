-- Words of literals of variables, one literal and one word more.
use Rattle.std.specs.Prelude.{◌≡◌, ℕ, ◌+◌, ◌<◌, ◌≤◌, List, [], ◌∷◌, ◌++◌, length, take, slice_index_or}
use Rattle.std.proofs.Common.{sym, subst}
use Rattle.std.proofs.lemmas.List.{take_all, take_more}
use Rattle.bb_cuts.specs.Variables.{IsSame, AreSame, AreSameWords}

same_push : (nodes lits olds : List ℕ) (l o : ℕ) → AreSame nodes lits olds → IsSame nodes l o
    → AreSame nodes (lits ++ l ∷ []) (olds ++ o ∷ [])
same_push nodes [] [] l o h is = (is, tt)
same_push nodes [] (p ∷ ps) l o h is = absurd h
same_push nodes (k ∷ ks) [] l o h is = absurd h
same_push nodes (k ∷ ks) (p ∷ ps) l o h is = (h.0, same_push nodes ks ps l o h.1 is)

pub same_next : (nodes made next word : List ℕ) (i d l : ℕ) → i < length word → AreSame nodes made (take i word)
    → IsSame nodes l (slice_index_or word i d) → next ≡ made ++ l ∷ [] → AreSame nodes next (take (i + 1) word)
same_next nodes made next word i d l below h is e =
    let P : List ℕ → Type 0 = λ ls. AreSame nodes ls (take (i + 1) word) in
    let Q : List ℕ → Type 0 = λ os. AreSame nodes (made ++ l ∷ []) os in
    subst P (sym e) (subst Q (sym (take_more word i d below))
    (same_push nodes made (take i word) l (slice_index_or word i d) h is))

pub same_done : (nodes made word : List ℕ) (i : ℕ) → length word ≤ i → AreSame nodes made (take i word)
    → AreSame nodes made word
same_done nodes made word i past h =
    let Q : List ℕ → Type 0 = λ os. AreSame nodes made os in
    subst Q (take_all i word past) h

words_push : (nodes : List ℕ) (words olds : List (List ℕ)) (w o : List ℕ) → AreSameWords nodes words olds
    → AreSame nodes w o → AreSameWords nodes (words ++ w ∷ []) (olds ++ o ∷ [])
words_push nodes [] [] w o h is = (is, tt)
words_push nodes [] (p ∷ ps) w o h is = absurd h
words_push nodes (k ∷ ks) [] w o h is = absurd h
words_push nodes (k ∷ ks) (p ∷ ps) w o h is = (h.0, words_push nodes ks ps w o h.1 is)

pub words_next : (nodes : List ℕ) (made next words : List (List ℕ)) (i : ℕ) (d w : List ℕ) → i < length words
    → AreSameWords nodes made (take i words) → AreSame nodes w (slice_index_or words i d) → next ≡ made ++ w ∷ []
    → AreSameWords nodes next (take (i + 1) words)
words_next nodes made next words i d w below h is e =
    let P : List (List ℕ) → Type 0 = λ ws. AreSameWords nodes ws (take (i + 1) words) in
    let Q : List (List ℕ) → Type 0 = λ os. AreSameWords nodes (made ++ w ∷ []) os in
    subst P (sym e) (subst Q (sym (take_more words i d below))
    (words_push nodes made (take i words) w (slice_index_or words i d) h is))

pub words_done : (nodes : List ℕ) (made words : List (List ℕ)) (i : ℕ) → length words ≤ i
    → AreSameWords nodes made (take i words) → AreSameWords nodes made words
words_done nodes made words i past h =
    let Q : List (List ℕ) → Type 0 = λ os. AreSameWords nodes made os in
    subst Q (take_all i words past) h
