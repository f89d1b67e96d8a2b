-- Cells of a name, one after the other.
use Rattle.std.specs.Prelude.{◌≡◌, ℕ, ◌+◌, ◌<◌, ◌≤◌, List, [], ◌∷◌, length, drop}
use Rattle.std.specs.Prelude.{Bool, true, false, if◌then◌else◌}
use Rattle.std.proofs.Common.{ap, arith, subst, sym, ◌∙◌}
use Rattle.vl_lower_cell_laws.specs.declared.keep.Keep.{Keep}
use Rattle.vl_lower_cell_laws.specs.Keeps.{Kept, is_whole, kept_bits, registers_of, whole_kept}
use Rattle.vl_lower.proofs.Bits.{few_bits}
use Rattle.vl_lower_cell_laws.specs.Listing.{Keeping}
use Rattle.vl_lower_cell_laws.proofs.SourcesLists.{named_many}
use Rattle.vl_lower.specs.declared.sources.Sources.{Sources}
use Rattle.vl_lower.specs.Added.{Added, Adds, cell_added, cells_added, word_added, words_added}
use Rattle.vl_lower.proofs.Lists.{drop_at, drop_none}
use Rattle.vl_lower.proofs.Sums.{SoFar, many_cells, many_regs, so_far_all, so_far_more}

-- a cell has no more registers than bits
pub few_registers : (keep : Keep) (w : ℕ) → 1 ≤ w → length (registers_of keep w) ≤ w
few_registers keep w some = by (is_whole keep w)
  where
    by : (b : Bool) → length (if b then whole_kept keep w ∷ [] else kept_bits keep w) ≤ w
    by true = omega (arith, some)
    by false = few_bits keep w

-- ---- variables

module _ (old mid new : Sources) (keep : Keeping) (w first name k : ℕ) (texts : List (List ℕ)) (whole : Added) where
  -- what is left before a cell
  abbrev pub left_at : Sources → ℕ → Added
  left_at x j = cells_added keep w (first + j) (name + j) (length x.net.regs) (drop j texts)

  pub cell_more : k < length texts → length mid.cells ≡ first + k → SoFar old mid (left_at mid k) whole
      → Adds mid new (cell_added (keep (first + k)) w (length mid.cells) (name + k) (length mid.net.regs))
      → SoFar old new (left_at new (k + 1)) whole
  cell_more less here s h =
      let r = drop_at texts k less in
      let xs : List Kept = registers_of (keep (first + k)) w in
      let rest : ℕ → ℕ → ℕ → Added = λ f a g. cells_added keep w f a g (drop (k + 1) texts) in
      let split : SoFar old mid (cells_added keep w (first + k) (name + k) (length mid.net.regs)
      (r.0 ∷ drop (k + 1) texts)) whole =
      subst (λ ts. SoFar old mid (cells_added keep w (first + k) (name + k) (length mid.net.regs) ts) whole) r.1 s in
      let own : Adds mid new (cell_added (keep (first + k)) w (first + k) (name + k) (length mid.net.regs)) =
      subst (λ f. Adds mid new (cell_added (keep (first + k)) w f (name + k) (length mid.net.regs))) here h in
      let more : SoFar old new (rest (first + k + 1) (name + k + 1) (length mid.net.regs + length xs)) whole =
      so_far_more old mid new (cell_added (keep (first + k)) w (first + k) (name + k) (length mid.net.regs))
      (rest (first + k + 1) (name + k + 1) (length mid.net.regs + length xs)) whole split own in
      let next_first : first + k + 1 ≡ first + (k + 1) = omega arith in
      let next_name : name + k + 1 ≡ name + (k + 1) = omega arith in
      let next_reg : length mid.net.regs + length xs ≡ length new.net.regs =
      ap (λ n. length mid.net.regs + n) (sym (named_many (name + k) xs))
      ∙ sym (many_regs mid new (cell_added (keep (first + k)) w (first + k) (name + k) (length mid.net.regs)) own) in
      subst (λ q. SoFar old new q whole) (λ i. rest (next_first i) (next_name i) (next_reg i)) more

  pub cell_counted : length mid.cells ≡ first + k
      → Adds mid new (cell_added (keep (first + k)) w (length mid.cells) (name + k) (length mid.net.regs))
      → length new.cells ≡ first + (k + 1)
  cell_counted here h =
      omega (
        arith,
        here,
        many_cells mid new (cell_added (keep (first + k)) w (length mid.cells) (name + k) (length mid.net.regs)) h,
      )

  pub regs_counted : 1 ≤ w → w ≤ 128
      → Adds mid new (cell_added (keep (first + k)) w (length mid.cells) (name + k) (length mid.net.regs))
      → length new.net.regs ≤ length mid.net.regs + 128
  regs_counted some few h =
      omega (
        arith,
        few,
        few_registers (keep (first + k)) w some,
        named_many (name + k) (registers_of (keep (first + k)) w),
        many_regs mid new (cell_added (keep (first + k)) w (length mid.cells) (name + k) (length mid.net.regs)) h,
      )

-- none is before the first cell
pub cells_begin : (x : Sources) (keep : Keeping) (w first name : ℕ) (texts : List (List ℕ))
    → cells_added keep w (first + 0) (name + 0) (length x.net.regs) texts
    ≡ cells_added keep w first name (length x.net.regs) texts
cells_begin x keep w first name texts =
    let same_first : first + 0 ≡ first = omega arith in
    let same_name : name + 0 ≡ name = omega arith in
    λ i. cells_added keep w (same_first i) (same_name i) (length x.net.regs) texts

-- and none is left behind the last one
pub cells_end : (old new : Sources) (keep : Keeping) (w first name k : ℕ) (texts : List (List ℕ)) (whole : Added)
    → length texts ≡ k
    → SoFar old new (cells_added keep w (first + k) (name + k) (length new.net.regs) (drop k texts)) whole
    → Adds old new whole
cells_end old new keep w first name k texts whole e s =
    so_far_all old new whole
    (subst (λ ts. SoFar old new (cells_added keep w (first + k) (name + k) (length new.net.regs) ts) whole)
    (drop_none texts k e) s)

-- ---- words

pub word_more : (old mid new : Sources) (w m k : ℕ) (texts : List (List ℕ)) (whole : Added) → k < length texts
    → SoFar old mid (words_added w m k (drop k texts)) whole → Adds mid new (word_added w m k)
    → SoFar old new (words_added w m (k + 1) (drop (k + 1) texts)) whole
word_more old mid new w m k texts whole less s h =
    let r = drop_at texts k less in
    let split : SoFar old mid (words_added w m k (r.0 ∷ drop (k + 1) texts)) whole =
    subst (λ ts. SoFar old mid (words_added w m k ts) whole) r.1 s in
    so_far_more old mid new (word_added w m k) (words_added w m (k + 1) (drop (k + 1) texts)) whole split h

pub words_end : (old new : Sources) (w m k : ℕ) (texts : List (List ℕ)) (whole : Added) → length texts ≡ k
    → SoFar old new (words_added w m k (drop k texts)) whole → Adds old new whole
words_end old new w m k texts whole e s =
    so_far_all old new whole (subst (λ ts. SoFar old new (words_added w m k ts) whole) (drop_none texts k e) s)
