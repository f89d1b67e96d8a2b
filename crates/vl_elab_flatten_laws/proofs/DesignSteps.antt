-- The parts of steps that aren't refused are known.
use Rattle.std.specs.Prelude.{◌≡◌, ℕ, List, [], ◌∷◌, None, All}
use Rattle.vl_tree.specs.declared.source.Module.{Module}
use Rattle.vl_tree.specs.WellFormed.{IsModule}
use Rattle.vl_mean.specs.declared.flat.Flat.{Flat}
use Rattle.vl_mean.specs.FlatParts.{flat_parts}
use Rattle.vl_mean.specs.Parts.{design, parts_of_steps, step_parts}
use Rattle.vl_mean.specs.Runs.{Each}
use Rattle.vl_mean.specs.Walk.{Step, header, port, item, override, connection, block_step, walk}
use Rattle.vl_mean_flat.specs.Flattened.{Known}
use Rattle.vl_mean_flat.specs.SameMaps.{AreSameMaps}
use Rattle.vl_mean_flat.proofs.EachOf.{both}
use Rattle.vl_elab_accepted_laws.specs.Unrefused.{NoStepRefused}
use Rattle.vl_elab_accepted_laws.proofs.Fresh.{IsFine}
use Rattle.vl_elab_accepted_laws.proofs.Loops.{AreFine}
use Rattle.vl_elab_accepted_laws.proofs.Names.{names_differ}
use Rattle.vl_elab_accepted_laws.proofs.NoneRefused.{walk-fine}
use Rattle.vl_elab_draft.specs.Drawn.{IsDrawn}
use Rattle.vl_elab_draft.proofs.Drawing.{same_maps}
use Rattle.vl_elab_accepted_laws.specs.Right.{IsRight}
use Rattle.vl_elab_accepted_laws.proofs.MeantWalked.{walk_is_right}
use Rattle.vl_elab_accepted_laws.proofs.Joining.{known_connection}
use Rattle.vl_elab_accepted_laws.proofs.Parting.{known_item, known_port}
use Rattle.vl_elab_accepted_laws.specs.SoundSteps.{HasSoundNames, IsFormedStep}
use Rattle.vl_elab_accepted_laws.proofs.SoundWalked.{walk_sound, walk_formed}

known_step : (ms : List Module) (x : Step) → IsRight x → HasSoundNames x → IsFormedStep x → IsFine ms x
    → Each Known (step_parts x)
known_step ms (header at x) r s w h = tt
known_step ms (port at u p q) r s w h = known_port at u p q r s w.0 w.1 h
known_step ms (item at x) r s w h = known_item ms at x r s w h
known_step ms (override at m u given x) r s w h = tt
known_step ms (block_step at b) r s w h = tt
known_step ms (connection at m u inside given x) r s w h =
    known_connection at m u inside given x r.0 s.0 r.1 s.1 s.2 w h

known_steps : (ms : List Module) (xs : List Step) → Each IsRight xs → Each HasSoundNames xs → Each IsFormedStep xs
    → AreFine ms xs → Each Known (parts_of_steps xs)
known_steps ms [] r s w h = tt
known_steps ms (x ∷ xs) r s w h =
    both Known (step_parts x) (parts_of_steps xs) (known_step ms x r.0 s.0 w.0 h.0)
    (known_steps ms xs r.1 s.1 w.1 h.1)

pub all_known : (ms : List Module) (top : List ℕ) → All IsModule ms → NoStepRefused ms top
    → Each Known (design ms top)
all_known ms top formed e =
    known_steps ms (walk ms top) (walk_is_right ms top) (walk_sound ms top formed e) (walk_formed ms top formed e)
    (walk-fine ms top e)

pub design_maps : (ms : List Module) (top : List ℕ) (f : Flat) → All IsModule ms → NoStepRefused ms top
    → IsDrawn (design ms top) f → AreSameMaps (design ms top) (flat_parts f)
design_maps ms top f formed e h =
    same_maps ms top f (names_differ ms top formed e) (all_known ms top formed e) h
