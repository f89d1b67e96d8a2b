-- What the steps of a design that isn't refused declare is in range.
use Rattle.std.specs.Prelude.{◌≡◌, refl, ℕ, ◌≤◌, List, [], ◌∷◌, ◌++◌, map, Option, Some, None, All, ℤ}
use Rattle.std.proofs.Common.{ap, subst}
use Rattle.vl_tree.specs.declared.source.Module.{Module}
use Rattle.vl_tree.specs.WellFormed.{IsModule}
use Rattle.vl_size.specs.declared.decl.Decl.{Decl}
use Rattle.vl_size.specs.Table.{IsShaped}
use Rattle.vl_mean.specs.declared.driver.Driver.{Driver}
use Rattle.vl_mean.specs.declared.driver.DriverKind.{DriverKind}
use Rattle.vl_mean.specs.FlatLaw.{IsKept, IsMemory}
use Rattle.vl_mean.specs.Parts.{Part, declares_all, design, here, parts_of_steps, step_parts}
use Rattle.vl_mean.specs.Runs.{Each}
use Rattle.vl_mean.specs.Walk.{Step, walk}
use Rattle.vl_mean_flat.specs.Flattened.{decls_of}
use Rattle.vl_mean_flat.proofs.EachOf.{front, back}
use Rattle.vl_mean_flat.proofs.LaidScopes.{decls_append}
use Rattle.vl_elab_accepted_laws.specs.Unrefused.{NoStepRefused}
use Rattle.vl_elab_accepted_laws.proofs.Fresh.{IsFine}
use Rattle.vl_elab_accepted_laws.proofs.Loops.{AreFine}
use Rattle.vl_elab_accepted_laws.proofs.NoneRefused.{walk-fine}
use Rattle.vl_elab_accepted_laws.proofs.Plain.{all-each}
use Rattle.vl_elab_accepted_laws.specs.SoundSteps.{IsFormedStep}
use Rattle.vl_elab_accepted_laws.proofs.SoundWalked.{walk_formed}
use Rattle.vl_elab_draft.specs.Drawn.{drivers_of}
use Rattle.vl_elab_const.specs.InRange.{AreWords}
use Rattle.vl_elab_const.specs.Openable.{IsInRange}
use Rattle.vl_elab_flatten_laws.proofs.Declared.{may_be_written}
use Rattle.vl_elab_flatten_laws.proofs.KeptWhole.{design_lawful}

-- ---- of what the whole design declares

words_bounded : (d : Decl) (words : Option (ℤ × ℤ)) → IsMemory words d → AreWords words
words_bounded d None h = tt
words_bounded d (Some bounds) h = record { left = h.0; right = h.1 }

within : (d : Decl) → IsShaped d → IsKept d → IsInRange d
within d h k = record {
  width = h.spans;
  short = record {
    bounded = record { left = k.left; right = k.right };
    few = subst (λ n. n ≤ 128) h.spans h.few_bits;
  };
  words = words_bounded d d.words k.memory;
}

each_within : (ds : List Decl) → Each IsShaped ds → Each IsKept ds → Each IsInRange ds
each_within [] h k = tt
each_within (d ∷ ds) h k = (within d h.0 k.0, each_within ds h.1 k.1)

-- drivers of these kinds, wherever they come from
somewhere : List DriverKind → List Driver
somewhere [] = []
somewhere (x ∷ xs) = record { pos = here; what = x } ∷ somewhere xs

kinds_somewhere : (xs : List DriverKind) → map (λ x. x.what) (somewhere xs) ≡ xs
unfolding somewhere
kinds_somewhere [] = refl
kinds_somewhere (x ∷ xs) = ap (λ l. x ∷ l) (kinds_somewhere xs)

design_within : (ms : List Module) (top : List ℕ) → All IsModule ms → NoStepRefused ms top
    → Each IsInRange (decls_of (design ms top))
design_within ms top formed e =
    let ps : List Part = design ms top in
    each_within (decls_of ps) (may_be_written ms top formed e).shaped
    (all-each IsKept (decls_of ps)
    (design_lawful ms top (somewhere (drivers_of ps)) formed e (kinds_somewhere (drivers_of ps))).kept)

-- ---- of each step

-- it isn't refused and well formed, and what it declares is in range
pub record IsKnown (ms : List Module) (x : Step) : Type 0 where
  pub fine : IsFine ms x
  pub formed : IsFormedStep x
  pub within : Each IsInRange (decls_of (step_parts x))

known_steps : (ms : List Module) (xs : List Step) → AreFine ms xs → Each IsFormedStep xs
    → Each IsInRange (decls_of (parts_of_steps xs)) → Each (IsKnown ms) xs
known_steps ms [] h w k = tt
known_steps ms (x ∷ xs) h w k =
    let split : Each IsInRange (decls_of (step_parts x) ++ decls_of (parts_of_steps xs))
    = subst (Each IsInRange) (decls_append (step_parts x) (parts_of_steps xs)) k in (
      record {
        fine = h.0;
        formed = w.0;
        within = front IsInRange (decls_of (step_parts x)) (decls_of (parts_of_steps xs)) split;
      },
      known_steps ms xs h.1 w.1 (back IsInRange (decls_of (step_parts x)) (decls_of (parts_of_steps xs)) split),
    )

pub walk_known : (ms : List Module) (top : List ℕ) → All IsModule ms → NoStepRefused ms top
    → Each (IsKnown ms) (walk ms top)
walk_known ms top formed e =
    known_steps ms (walk ms top) (walk-fine ms top e) (walk_formed ms top formed e) (design_within ms top formed e)

-- ---- under its own name

pub own_range : (d : Decl) (text : List ℕ) → IsInRange (record d { name = text }) → IsInRange d
own_range d text h = record { width = h.width; short = h.short; words = h.words }

pub own_ranges : (path : List ℕ) (ds : List Decl) (ps : List Part)
    → Each IsInRange (decls_of (declares_all path ds ++ ps)) → Each IsInRange ds
own_ranges path [] ps h = tt
own_ranges path (d ∷ ds) ps h = (own_range d (path ++ d.name) h.0, own_ranges path ds ps h.1)
