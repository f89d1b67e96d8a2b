-- The tree of texts that is a simple wrapper is that of at most 2,000,000 tokens.
use Rattle.std.specs.Prelude.{◌≡◌, ◌≤◌, List, length, Result, Ok, Err}
use Rattle.std.proofs.Common.{ap, sym, subst, arith}
use Rattle.fv_text.specs.declared.token.Token.{Token}
use Rattle.vl_tree.specs.declared.source.Source.{Source}
use Rattle.vl_prep.specs.declared.fault.PrepFault.{PrepFault}
use Rattle.vl_prep.specs.Prep.{Outcome, preprocessed}
use Rattle.vl_text.specs.Assumptions.{with_assumptions}
use Rattle.vl_text.specs.SourceText.{AreParsed, ArePrepared, AreRead, Comes, FromTokens, IsTree, Reading, Then}
use Rattle.vl_text.specs.SourceText.{outcome_or_fault, with_macros}
use Rattle.vl_text.specs.Texts.{Text}
use Rattle.vl_text.specs.declared.fault.TextFault.{TextFault}
use Rattle.vl_text.specs.declared.fault.TextFault.TheVariants.{Prep}
use Rattle.vl_text.specs.declared.macros.Core.{Core}
use Rattle.rvf_simple.proofs.FewTokens.{few_tokens}
use Rattle.rvf_simple.specs.SimpleTrees.{IsSimple}
use Rattle.rvf_simple.proofs.Placed.{simple_tokens}
use Rattle.rvf_simple.proofs.Results.{ok_err, ok_is}

-- the tokens that a tree spells, few of them
pub record IsOfFew (tree : Source) : Type 0 where
  pub tokens : List Token
  pub parsed : IsTree tokens tree
  pub few : length tokens ≤ 2000000

put_out_few : (done : Outcome) (o : Result Outcome PrepFault) → Ok done ≡ outcome_or_fault o → o ≡ Ok done
put_out_few done (Ok x) e = ap Ok (sym (ok_is done x e))
put_out_few done (Err f) e = absurd (ok_err done (Prep f) e)

module _ (core : Core) (lines : List Text) (r : Reading) (simple : IsSimple r.tree.modules) where
  tree_few : (done : Outcome) → length done.output ≤ 2000000 → (tree : Result Source TextFault)
      → AreParsed (with_assumptions lines done.output) tree → Ok r ≡ with_macros done.macros tree → IsOfFew r.tree
  tree_few done h (Ok tree) p e =
      let read : r ≡ record { tree = tree; macros = done.macros }
      = ok_is r (record { tree = tree; macros = done.macros }) e in
      record {
        tokens = with_assumptions lines done.output;
        parsed = here read;
        few = omega (arith, h, simple_tokens lines done.output r.tree (here read).tree_of.1 simple);
      }
    where
      here : r ≡ record { tree = tree; macros = done.macros } → IsTree (with_assumptions lines done.output) r.tree
      here read = subst (IsTree (with_assumptions lines done.output)) (ap (λ r. r.tree) (sym read)) p
  tree_few done h (Err f) p e = absurd (ok_err r f e)

  read_few : (tokens : List Token) (middle : Result Outcome TextFault) → ArePrepared core tokens middle
      → Then middle (AreRead lines) (Ok r) → IsOfFew r.tree
  read_few tokens (Ok done) h next =
      tree_few done
      (few_tokens h.macros tokens done (put_out_few done (preprocessed h.macros tokens) h.comes))
      next.tree next.parsed next.comes
  read_few tokens (Err f) h next = absurd (ok_err r f next)

  laid_few : (middle : Result (List Token) TextFault) → Then middle (FromTokens core lines) (Ok r) → IsOfFew r.tree
  laid_few (Ok tokens) next = read_few tokens next.middle next.first next.next
  laid_few (Err f) next = absurd (ok_err r f next)

pub tree_of_few : (core : Core) (texts lines : List Text) (r : Reading) → IsSimple r.tree.modules
    → Comes core texts lines (Ok r) → IsOfFew r.tree
tree_of_few core texts lines r simple h = laid_few core lines r simple h.middle h.next
