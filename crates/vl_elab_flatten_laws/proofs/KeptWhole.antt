-- What is drawn from a design that isn't refused keeps the law of a design without hierarchy.
use Rattle.std.specs.Prelude.{◌≡◌, refl, ℕ, List, [], ◌∷◌, ◌++◌, map, All, Bool, true, false, None}
use Rattle.std.proofs.Common.{ap, sym, subst}
use Rattle.std.proofs.lemmas.List.Elements.{All-nil, All-cons}
use Rattle.vl_tree.specs.declared.declaration.NetKind.TheVariants as net
use Rattle.vl_tree.specs.declared.source.Module.{Module}
use Rattle.vl_tree.specs.DeclarationWellFormed.{IsDeclaredName, IsOptionalRange}
use Rattle.vl_tree.specs.Item.{Item, declaration, integer, genvar, parameter, assign, always, initial, instance}
use Rattle.vl_tree.specs.Item.{generate, for_loop, if_only, if_else}
use Rattle.vl_tree.specs.WellFormed.{IsModule, IsWellFormed}
use Rattle.vl_size.specs.declared.decl.Class.{Class}
use Rattle.vl_size.specs.declared.decl.Class.TheVariants as class
use Rattle.vl_size.specs.declared.decl.Decl.{Decl}
use Rattle.vl_mean.specs.declared.driver.Driver.{Driver}
use Rattle.vl_mean.specs.Declarations.{class_of_attributes, class_of_kind, class_of_port, declared_by, is_output}
use Rattle.vl_mean.specs.Declarations.{joined_attributes, port_decl, port_named, ports_of}
use Rattle.vl_mean.specs.FlatLaw.{IsKept, IsLawful, is_graphic}
use Rattle.vl_mean.specs.Parts.{design, declares_all, item_parts, parts_of_steps, port_kind, step_parts, values_of}
use Rattle.vl_mean.specs.Parts.{optional_value}
use Rattle.vl_mean.specs.Runs.{Each}
use Rattle.vl_mean.specs.Scopes.{constant_in}
use Rattle.vl_mean.specs.Walk.{Place, Step, header, port, item, override, connection, block_step, walk}
use Rattle.vl_mean_flat.specs.Flattened.{decls_of}
use Rattle.vl_mean_flat.proofs.EachOf.{both}
use Rattle.vl_elab_spec.specs.Items.{item_refusals, given_value, names_refusals, port_net, range_refusals}
use Rattle.vl_elab_spec.specs.Items.{width_refusals}
use Rattle.vl_elab_spec.specs.Meanings.{constants, meanings_at}
use Rattle.vl_elab_accepted_laws.specs.Unrefused.{NoStepRefused}
use Rattle.vl_elab_accepted_laws.proofs.Fresh.{IsFine, NoneOf, none-front, none-back}
use Rattle.vl_elab_accepted_laws.proofs.Loops.{AreFine}
use Rattle.vl_elab_accepted_laws.proofs.NoneRefused.{walk-fine}
use Rattle.vl_elab_accepted_laws.proofs.Plain.{all-head, all-tail, all-each}
use Rattle.vl_elab_scope.specs.Seen.{AllNamed}
use Rattle.vl_elab_accepted_laws.specs.Sized.{AreSound, AreSure}
use Rattle.vl_elab_spec.specs.Among.{AreAmong}
use Rattle.vl_elab_accepted_laws.specs.Right.{IsRight}
use Rattle.vl_elab_accepted_laws.proofs.MeantWalked.{walk_is_right}
use Rattle.vl_elab_accepted_laws.specs.SoundSteps.{HasSoundBounds, HasSoundNames, IsFormedStep}
use Rattle.vl_elab_accepted_laws.proofs.Reached.{sure_sound}
use Rattle.vl_elab_accepted_laws.proofs.SoundWalked.{walk_bounds, walk_formed, walk_sound}
use Rattle.vl_elab_draft.specs.Drawn.{drivers_of, starts_of}
use Rattle.vl_elab_accepted_laws.proofs.Paths.{IsClean}
use Rattle.vl_elab_accepted_laws.proofs.Printed.{design_printed, IsPrinted, walk_clean}
use Rattle.vl_elab_flatten_laws.proofs.Counted.{design_names, design_nodes}
use Rattle.vl_elab_flatten_laws.proofs.LawfulWhole.{design_driven, design_started}
use Rattle.vl_elab_flatten_laws.proofs.Fits.{IsFit, PartFits, assignments_fit, block_fits, declared_fit, initial_fits}
use Rattle.vl_elab_flatten_laws.proofs.Fits.{integers_fit}
use Rattle.vl_elab_flatten_laws.proofs.Fits.{names_fit, optional_fits, port_decl_fits, port_fits, under_fit, values_fit}

-- the bounds of what a step declares are read over the constants that are judged
fit_item : (ms : List Module) (at : Place) (x : Item) → AllNamed (meanings_at at) → AreSure (meanings_at at)
    → AreAmong (constants (meanings_at at)) (constant_in at.around) → IsWellFormed x → NoneOf (item_refusals ms at x)
    → Each PartFits (item_parts at x)
fit_item ms at (declaration attrs p d) n s among w h =
    let ns = meanings_at at in
    let c : Class = class_of_attributes (class_of_kind d.net) (joined_attributes attrs) in
    let names = names_refusals ns d.net c d.shape.range d.names in
    both PartFits (declares_all at.path (declared_by at.around (declaration attrs p d)))
    (values_of at.scopes d.net d.names)
    (under_fit at.path (declared_by at.around (declaration attrs p d))
    (names_fit ns n s at.around among d.net c d.shape d.names w.1.0
    (none-back _ (range_refusals ns d.shape.range) (none-front _ names h))
    (all-each IsDeclaredName d.names w.1.1.1) (none-back _ names h)))
    (values_fit at.scopes d.net d.names)
fit_item ms at (integer attrs p xs) n s among w h =
    let ns = meanings_at at in
    let c : Class = class_of_attributes class.Variable (joined_attributes attrs) in
    both PartFits (declares_all at.path (declared_by at.around (integer attrs p xs))) (values_of at.scopes net.Reg xs)
    (under_fit at.path (declared_by at.around (integer attrs p xs))
    (integers_fit ns n s at.around among net.Reg c xs (all-each IsDeclaredName xs w.1.1)
    (none-back _ (names_refusals ns net.Reg c None xs) h)))
    (values_fit at.scopes net.Reg xs)
fit_item ms at (genvar attrs p xs) n s among w h = tt
fit_item ms at (parameter attrs p kind xs) n s among w h = tt
fit_item ms at (assign attrs p xs) n s among w h = assignments_fit at.scopes xs
fit_item ms at (always attrs p e y) n s among w h = block_fits at.scopes e.kind y
fit_item ms at (initial attrs p y) n s among w h = initial_fits at.scopes y
fit_item ms at (instance attrs p x) n s among w h = tt
fit_item ms at (generate attrs p mark) n s among w h = tt
fit_item ms at (for_loop attrs p head b) n s among w h = tt
fit_item ms at (if_only attrs p c b) n s among w h = tt
fit_item ms at (if_else attrs p c b d) n s among w h = tt

all_sure : (at : Place) → AreSound (meanings_at at) → AreSure (meanings_at at)
all_sure at s text = sure_sound _ (s text)

fit_step : (ms : List Module) (x : Step) → IsRight x → HasSoundNames x → HasSoundBounds x → IsClean x
    → IsFine ms x → Each PartFits (step_parts x)
fit_step ms (header at x) r s b w h = tt
fit_step ms (port at u p q) r s b w h =
    let ns = meanings_at at in
    let front = none-front _ (given_value ns p.pos (port_net q.net) q.name q.value) h in
    both PartFits (declares_all at.path (port_decl at.around u.is_top u.input q ∷ []))
    (optional_value at.scopes (port_kind q.net) q.name q.value)
    (under_fit at.path (port_decl at.around u.is_top u.input q ∷ []) (
      port_decl_fits ns r.0 (all_sure at s) at.around b (class_of_port u.input q q.direction q.net) _ q.shape q.name w.2
          (none-back _ (range_refusals ns q.shape.range) (none-front _ (width_refusals ns p.pos q.shape.range) front)),
      tt,
    ))
    (optional_fits at.scopes (port_kind q.net) q.name q.value)
fit_step ms (item at x) r s b w h = fit_item ms at x r.0 (all_sure at s) b w.1 h
fit_step ms (override at m u given x) r s b w h = tt
fit_step ms (block_step at b) r s c w h = tt
fit_step ms (connection at m u inside given x) r s b w h =
    port_fits at.scopes inside (port_named (ports_of m.ports) x.port) x.value

fit_steps : (ms : List Module) (xs : List Step) → Each IsRight xs → Each HasSoundNames xs → Each HasSoundBounds xs
    → Each IsClean xs → AreFine ms xs → Each PartFits (parts_of_steps xs)
fit_steps ms [] r s b w h = tt
fit_steps ms (x ∷ xs) r s b w h =
    both PartFits (step_parts x) (parts_of_steps xs) (fit_step ms x r.0 s.0 b.0 w.0 h.0)
    (fit_steps ms xs r.1 s.1 b.1 w.1 h.1)

all_fit : (ms : List Module) (top : List ℕ) → All IsModule ms → NoStepRefused ms top
    → Each IsFit (decls_of (design ms top))
all_fit ms top formed e =
    declared_fit (design ms top)
    (fit_steps ms (walk ms top) (walk_is_right ms top) (walk_sound ms top formed e) (walk_bounds ms top formed e)
    (walk_clean ms top formed e) (walk-fine ms top e))

all_kept : (ds : List Decl) → Each IsFit ds → All IsPrinted ds → All IsKept ds
all_kept [] h k = All-nil IsKept
all_kept (d ∷ ds) h k =
    All-cons IsKept d ds (record {
      graphic = all-head IsPrinted d ds k;
      left = h.0.left;
      right = h.0.right;
      memory = h.0.memory;
    }) (all_kept ds h.1 (all-tail IsPrinted d ds k))

pub design_lawful : (ms : List Module) (top : List ℕ) (xs : List Driver) → All IsModule ms → NoStepRefused ms top
    → map (λ x. x.what) xs ≡ drivers_of (design ms top)
    → IsLawful (decls_of (design ms top)) xs (starts_of (design ms top))
design_lawful ms top xs formed e h = record {
  kept = all_kept (decls_of (design ms top)) (all_fit ms top formed e) (design_printed ms top formed e);
  driven = design_driven ms top xs formed e h;
  started = design_started ms top formed e;
  few_names = design_names ms top e;
  few_nodes = design_nodes ms top xs e h;
}
