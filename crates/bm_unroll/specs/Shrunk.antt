-- Between functions: Frames once more, with equal nodes once and with fewer sources (rule of this project).
use Rattle.std.specs.Prelude.{◌≡◌, ℕ, List, Option, None, Some, map, slice_get, slice_index}
use Rattle.wn_net.specs.Given.{AreNumbersOf}
use Rattle.wn_opt.specs.Compact.{AreRising}
use Rattle.bm_unroll.specs.declared.draft.Draft.{Draft}
use Rattle.bm_unroll.specs.declared.walked.Walked.{Walked}
use Rattle.bm_unroll.specs.declared.frames.Frames.{Frames}
use Rattle.bm_unroll.specs.declared.frames.Source.{Source}
use Rattle.bm_unroll.specs.declared.frames.Source.TheVariants as s
use Rattle.bm_unroll.specs.Frames.{AreRead, IsFrames, values_by}

-- all nodes and all sources of a draft as frames
abbrev pub frames_of : Draft → Walked → Frames
frames_of d w = record {
  nodes = d.net.nodes;
  sources = d.sources.items;
  widths = d.widths.items;
  roots = w.roots.items;
  watch = w.watch.items;
}

abbrev pub source_or : Option Source → Source
source_or None = s.Once 0
source_or (Some x) = x

-- the source at a place; input 0 where there is none
abbrev pub source_at : List Source → ℕ → Source
source_at xs k = source_or (slice_get xs k)

-- Sources are kept in their order, each of which is read. Where they have the old ones' numbers, roots and watched
-- nodes have the values of the old ones.
pub record IsShrunk (old new : Frames) : Type 0 where
  pub kept : List ℕ
  pub rising : AreRising kept
  pub sources : map Some new.sources ≡ map (slice_get old.sources) kept
  pub widths : new.widths ≡ map (slice_index old.widths) kept
  pub whole : IsFrames new
  pub roots : (numbers : List ℕ) → AreNumbersOf old.widths numbers
      → map (slice_index (values_by new (map (slice_index numbers) kept))) new.roots
      ≡ map (slice_index (values_by old numbers)) old.roots
  pub watch : (numbers : List ℕ) → AreNumbersOf old.widths numbers
      → map (slice_index (values_by new (map (slice_index numbers) kept))) new.watch
      ≡ map (slice_index (values_by old numbers)) old.watch
  pub read : AreRead new
