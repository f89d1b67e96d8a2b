-- Lists to which what is ahead is added piece by piece, where a fact of each piece is known.
use Rattle.std.specs.Prelude.{◌≡◌, refl, List, [], ◌++◌}
use Rattle.std.proofs.Common.{ap, subst}
use Rattle.vl_mean.specs.Runs.{Each}
use Rattle.vl_mean_flat.proofs.EachOf.{front, back}
use Rattle.vl_elab_names.proofs.Ahead.{on, ended, nothing}

pub none_more : {A : Type 0} (xs : List A) → xs ≡ xs ++ []
none_more xs = nothing xs

-- with what is ahead, this is the whole
pub record Goes {A : Type 0} (P : A → Type 0) (whole now ahead : List A) : Type 0 where
  pub same : now ++ ahead ≡ whole
  pub holds : Each P ahead

pub goes_first : {A : Type 0} (P : A → Type 0) (old all : List A) → Each P all → Goes P (old ++ all) old all
goes_first P old all h = record { same = refl; holds = h }

pub goes_on : {A : Type 0} (P : A → Type 0) (whole now new here rest ahead : List A) → ahead ≡ here ++ rest
    → (Each P here → new ≡ now ++ here) → Goes P whole now ahead → Goes P whole new rest
goes_on P whole now new here rest ahead e made g =
    let holds : Each P (here ++ rest) = subst (Each P) e g.holds in
    record {
      same = on now new here rest ahead whole (made (front P here rest holds)) e g.same;
      holds = back P here rest holds;
    }

pub goes_last : {A : Type 0} (P : A → Type 0) (whole now ahead : List A) → ahead ≡ [] → Goes P whole now ahead
    → now ≡ whole
goes_last P whole now ahead e g = ended now ahead whole e g.same
