-- A name with as few zeros as no declared name has.
use Rattle.std.specs.Prelude.{◌≡◌, refl, ℕ, suc, ◌+◌, ◌-◌, ◌<◌, List, replicate, Bool, true, false}
use Rattle.std.specs.Prelude.{if◌then◌else◌, not}
use Rattle.std.proofs.Common.{ap, sym, ◌∙◌, true≢false, arith}
use Rattle.vl_elab_names.specs.declared.set.NameSet.{NameSet}
use Rattle.vl_elab_names.specs.Known.{AreNames, contains}
use Rattle.vl_mean.specs.Cells.{contains_name}
use Rattle.vl_mean.specs.Declarations.{genblk, unused_genblk}

-- the search goes on at these zeros
pub record GoesOn (count number zeros : ℕ) (all : List (List ℕ)) : Type 0 where
  pub from : (more : ℕ) → zeros + more ≡ count → unused_genblk count 0 all number ≡ unused_genblk more zeros all number

pub begins : (count number : ℕ) (all : List (List ℕ)) → GoesOn count number 0 all
begins count number all = record {
  from = λ more e. let same : count ≡ more = omega (arith, e) in ap (λ m. unused_genblk m 0 all number) same;
}

pub goes_on : (count number zeros : ℕ) (all : List (List ℕ)) → contains_name all (genblk zeros number) ≡ true
    → GoesOn count number zeros all → GoesOn count number (zeros + 1) all
goes_on count number zeros all c h = record {
  from = λ more e. h.from (suc more) (omega (arith, e))
      ∙ ap (λ b. if b then unused_genblk more (zeros + 1) all number else genblk zeros number) c;
}

pub ends_here : (count number zeros : ℕ) (all : List (List ℕ)) → zeros < count
    → contains_name all (genblk zeros number) ≡ false → GoesOn count number zeros all
    → genblk zeros number ≡ unused_genblk count 0 all number
ends_here count number zeros all l c h =
    let more : ℕ = count - zeros - 1 in
    sym (h.from (suc more) (omega arith)
    ∙ ap (λ b. if b then unused_genblk more (zeros + 1) all number else genblk zeros number) c)

pub ends_last : (count number z : ℕ) (all : List (List ℕ)) → z ≡ count → GoesOn count number z all
    → genblk count number ≡ unused_genblk count 0 all number
ends_last count number z all l h = ap (λ k. genblk k number) (sym l) ∙ sym (h.from 0 (omega arith))

-- ---- zeros

abbrev pub noughts : ℕ → List ℕ
noughts n = replicate {A = ℕ} n 48

-- ---- what a test of the names says

pub is_there : (set : NameSet) (all : List (List ℕ)) (text name : List ℕ) (b : Bool) → AreNames set all → name ≡ text
    → b ≡ contains set name → contains_name all text ≡ b
is_there set all text name b h e t = sym (h text) ∙ ap (contains set) (sym e) ∙ sym t

pub not_true : (b : Bool) → not b ≡ true → b ≡ false
not_true true h = absurd (true≢false (sym h))
not_true false h = refl

pub not_false : (b : Bool) → not b ≡ false → b ≡ true
not_false true h = refl
not_false false h = absurd (true≢false h)
