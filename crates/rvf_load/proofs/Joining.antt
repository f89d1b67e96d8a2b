-- What the parts of loading come to is what is there of the texts.
use Rattle.std.specs.Prelude.{◌≡◌, List, All, Bool, true, false, Result, Ok, Err}
use Rattle.std.proofs.Common.{ap, sym, ◌∙◌, subst, true≢false}
use Rattle.fv_text.specs.declared.token.Token.{Token}
use Rattle.vl_prep.specs.Prep.{Outcome}
use Rattle.vl_tree.specs.declared.source.Source.{Source}
use Rattle.vl_tree.specs.WellFormed.{IsModule}
use Rattle.vl_flow.specs.declared.ordered.Ordered.{Ordered}
use Rattle.vl_text.specs.Assumptions.{with_assumptions}
use Rattle.vl_text.specs.SourceText as source
use Rattle.vl_text.specs.SourceText.{AreParsed, AreRead, Comes, FromTokens, Only, Reading, Then}
use Rattle.vl_text.specs.SourceText.{with_macros}
use Rattle.vl_text.specs.Texts.{Text}
use Rattle.vl_text.specs.declared.fault.TextFault.{TextFault}
use Rattle.vl_text.specs.declared.fault.TextFault.TheVariants as text
use Rattle.vl_text.specs.declared.macros.Core.{Core}
use Rattle.rvf_load.specs.Loads.{Answers, Asked, IsFlat, Reads, opts_of, wants_of}
use Rattle.rvf_load.specs.Stages.{IsInOrder, Gives, IsWeighed, of_text}
use Rattle.rvf_load.specs.declared.loaded.Loaded.{Loaded}
use Rattle.rvf_load.specs.declared.fault.LoadFault.{LoadFault}
use Rattle.rvf_load.specs.declared.fault.LoadFault.TheVariants as fault
use Rattle.rvf_load.proofs.Alone.{ComeToOne, alone}
use Rattle.rvf_load.proofs.Readings.{is_reading, reading_comes}

-- ---- the tree of a reading is well formed

abbrev is_read : Result Reading TextFault → Bool
is_read (Ok r) = true
is_read (Err f) = false

abbrev reading_or : Reading → Result Reading TextFault → Reading
reading_or r (Ok s) = s
reading_or r (Err f) = r

abbrev tree_or : Source → Result Reading TextFault → Source
tree_or t (Ok r) = r.tree
tree_or t (Err f) = t

module _ (r : Reading) where
  spelled : (tokens : List Token) (done : Outcome) (tree : Result Source TextFault) → AreParsed tokens tree
      → Ok r ≡ with_macros done.macros tree → All IsModule r.tree.modules
  spelled tokens done (Ok t) h e =
      subst (λ (x : Source). All IsModule x.modules) (sym (ap (tree_or r.tree) e)) h.tree_of.0.1
  spelled tokens done (Err f) h e = absurd (true≢false (ap is_read e))

  from_outcome : (lines : List Text) (done : Result Outcome TextFault) → Then done (AreRead lines) (Ok r)
      → All IsModule r.tree.modules
  from_outcome lines (Ok done) h = spelled (with_assumptions lines done.output) done h.tree h.parsed h.comes
  from_outcome lines (Err f) h = absurd (true≢false (ap is_read h))

  from_tokens : (core : Core) (lines : List Text) (tokens : Result (List Token) TextFault)
      → Then tokens (FromTokens core lines) (Ok r) → All IsModule r.tree.modules
  from_tokens core lines (Ok tokens) h = from_outcome lines h.middle h.next
  from_tokens core lines (Err f) h = absurd (true≢false (ap is_read h))

  pub are_modules : (core : Core) (texts lines : List Text) → Comes core texts lines (Ok r)
      → All IsModule r.tree.modules
  are_modules core texts lines h = from_tokens core lines h.middle h.next

-- ---- what is there

-- what comes of the texts is what they say
says : (a : Asked) (r : Reading) → Comes a.core a.texts a.lines (Ok r) → Reads a r
says a r h = is_reading a.texts a.lines a.core r h

-- the design in order
pub ordered_there : (a : Asked) (r : Reading) (ordered : Ordered) (result : Result Loaded LoadFault)
    → Only (Comes a.core a.texts a.lines) (Ok r) → IsFlat r.tree.modules ordered.flat
    → IsWeighed a.factors ordered a.channels (wants_of a.probes r.macros) (opts_of a.core r.macros) result
    → Gives a result
ordered_there a r ordered (Ok l) only flat h = record {
  reading = r;
  flat = ordered.flat;
  writes = record { reads = says a r only.is; is_flat = flat };
  ordered = ordered.accepted;
  light = h.0;
  loaded = h.1.loaded;
  bound = h.1.bound;
  few = h.1.few;
  own = h.1.own;
  options = h.1.options;
  weighed = h.1.weighed;
  imem = h.1.imem;
  dmem = h.1.dmem;
  one = λ other k. ap (reading_or r) (only.only (Ok other) (reading_comes a.texts a.lines a.core other k));
}
ordered_there a r ordered (Err (fault.Text f)) only flat h = absurd h
ordered_there a r ordered (Err (fault.Elab f)) only flat h = absurd h
ordered_there a r ordered (Err (fault.Flow f)) only flat h = absurd h
ordered_there a r ordered (Err (fault.Heavy place product)) only flat h = record {
  reading = r;
  flat = ordered.flat;
  writes = record { reads = says a r only.is; is_flat = flat };
  ordered = ordered.accepted;
  heavy = h;
}
ordered_there a r ordered (Err (fault.Port f)) only flat h = record {
  reading = r;
  flat = ordered.flat;
  writes = record { reads = says a r only.is; is_flat = flat };
  ordered = ordered.accepted;
  light = h.0;
  refused = h.1;
}
ordered_there a r ordered (Err fault.Memory) only flat h = tt

-- or why there is none
pub refused_there : (a : Asked) (r : Reading) (f : LoadFault) → Comes a.core a.texts a.lines (Ok r)
    → IsInOrder r.tree.modules (Err f) → Gives a (Err f)
refused_there a r (fault.Text f) reads h = absurd h
refused_there a r (fault.Elab f) reads h = record { reading = r; reads = says a r reads; refused = h }
refused_there a r (fault.Flow f) reads h = record {
  reading = r;
  flat = h.flat;
  writes = record { reads = says a r reads; is_flat = h.is_flat };
  refused = h.refused;
}
refused_there a r (fault.Heavy place product) reads h = absurd h
refused_there a r (fault.Port f) reads h = absurd h
refused_there a r fault.Memory reads h = tt

-- ---- what is answered

only_one : (a : Asked) (x : Result Reading TextFault) → Only (Comes a.core a.texts a.lines) x → ComeToOne a
only_one a x h y z k l = h.only y k ∙ sym (h.only z l)

pub tree_answered : (a : Asked) (r : Reading) (result : Result Loaded LoadFault)
    → Only (Comes a.core a.texts a.lines) (Ok r) → Gives a result → Answers a result
tree_answered a r result h there = alone a (only_one a (Ok r) h) result there

pub text_answered : (a : Asked) (f : TextFault) → source.Answers (Comes a.core a.texts a.lines) (Err f)
    → Answers a (Err (of_text f))
text_answered a (text.Lex f) h = alone a (only_one a (Err (text.Lex f)) h) (Err (fault.Text (text.Lex f))) h.is
text_answered a (text.Prep f) h = alone a (only_one a (Err (text.Prep f)) h) (Err (fault.Text (text.Prep f))) h.is
text_answered a (text.Parse f) h = alone a (only_one a (Err (text.Parse f)) h) (Err (fault.Text (text.Parse f))) h.is
text_answered a text.Memory h = tt
