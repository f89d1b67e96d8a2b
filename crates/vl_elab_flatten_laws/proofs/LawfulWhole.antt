-- What is drawn from a design that isn't refused may be driven so, and begin so.
use Rattle.std.specs.Prelude.{◌≡◌, refl, ℕ, List, [], ◌∷◌, ◌++◌, map, All, true, None, Some, Option}
use Rattle.std.proofs.Common.{ap, sym, subst}
use Rattle.std.proofs.lemmas.List.Elements.{All-nil, All-cons}
use Rattle.vl_tree.specs.declared.declaration.NetKind.{NetKind}
use Rattle.vl_tree.specs.declared.declaration.NetKind.TheVariants as net
use Rattle.vl_tree.specs.declared.source.Module.{Module}
use Rattle.vl_tree.specs.DeclarationWellFormed.{IsDeclaredName}
use Rattle.vl_tree.specs.Item.{Item, declaration, integer, genvar, parameter, assign, always, initial, instance}
use Rattle.vl_tree.specs.Item.{generate, for_loop, if_only, if_else}
use Rattle.vl_tree.specs.WellFormed.{IsAssignment, IsModule, IsWellFormed}
use Rattle.vl_size.specs.declared.decl.Class.TheVariants as class
use Rattle.vl_size.specs.declared.decl.Decl.{Decl}
use Rattle.vl_mean.specs.declared.driver.Driver.{Driver}
use Rattle.vl_mean.specs.declared.driver.DriverKind.{DriverKind}
use Rattle.vl_mean.specs.declared.driver.Start.{Start}
use Rattle.vl_mean.specs.Declarations.{class_of_attributes, class_of_kind, joined_attributes}
use Rattle.vl_mean.specs.FlatLaw.{IsAssigned, IsDriver, is_variable}
use Rattle.vl_mean.specs.Parts.{Part, declares, equation, combinational, clocked, starts, design, item_parts, port_kind}
use Rattle.vl_mean.specs.Parts.{parts_of_steps, step_parts, values_of}
use Rattle.vl_mean.specs.Runs.{Each}
use Rattle.vl_mean.specs.Walk.{Place, Step, header, port, item, override, connection, block_step, walk}
use Rattle.vl_mean_flat.specs.Flattened.{decls_of}
use Rattle.vl_mean_flat.specs.StepScopes.{StepScopes}
use Rattle.vl_mean_flat.proofs.EachOf.{both}
use Rattle.vl_mean_flat.proofs.FoundNames.{AreScopes}
use Rattle.vl_mean_flat.proofs.LaidScopes.{laid_walk}
use Rattle.vl_elab_spec.specs.Items.{event_refusals, given_value, item_refusals, port_net}
use Rattle.vl_elab_spec.specs.Meanings.{meanings_at}
use Rattle.vl_elab_accepted_laws.specs.Unrefused.{NoStepRefused}
use Rattle.vl_elab_spec.specs.Statements.{stmt_refusals}
use Rattle.vl_elab_accepted_laws.proofs.Fresh.{IsFine, NoneOf, none-back}
use Rattle.vl_elab_accepted_laws.proofs.Loops.{AreFine}
use Rattle.vl_elab_accepted_laws.proofs.Names.{names_differ}
use Rattle.vl_elab_accepted_laws.proofs.NoneRefused.{walk-fine}
use Rattle.vl_elab_accepted_laws.proofs.Plain.{all-each}
use Rattle.vl_elab_draft.specs.Drawn.{drivers_of, starts_of}
use Rattle.vl_elab_accepted_laws.specs.Sized.{AreSound}
use Rattle.vl_elab_accepted_laws.specs.Right.{AreRight, IsRight}
use Rattle.vl_elab_accepted_laws.proofs.MeantWalked.{walk_is_right}
use Rattle.vl_elab_accepted_laws.specs.SoundSteps.{HasOwnInput, HasSoundNames, IsFormedStep}
use Rattle.vl_elab_accepted_laws.proofs.SoundWalked.{walk_formed, walk_inputs, walk_sound}
use Rattle.vl_elab_flatten_laws.proofs.Joins.{drawn_connection}
use Rattle.vl_elab_flatten_laws.proofs.LawfulSteps.{IsDrawnPart, declarations_drawn, drawn_assignments, drawn_block}
use Rattle.vl_elab_flatten_laws.proofs.LawfulSteps.{drawn_given}
use Rattle.vl_elab_flatten_laws.proofs.LawfulSteps.{drawn_initial, drawn_names}

same_kind : (o : Option NetKind) → port_net o ≡ port_kind o
same_kind None = refl
same_kind (Some kind) = refl

module _ (ms : List Module) (es : List Decl) where
  drawn_item : (at : Place) (x : Item) → AreRight (meanings_at at) at.scopes → AreSound (meanings_at at)
      → AreScopes es at.scopes → IsWellFormed x → NoneOf (item_refusals ms at x)
      → Each (IsDrawnPart es) (item_parts at x)
  drawn_item at (declaration attrs p d) r s l w h =
      let ns = meanings_at at in
      both (IsDrawnPart es) _ (values_of at.scopes d.net d.names) (declarations_drawn es at.path _)
      (drawn_names es ns at.scopes r.0 (r.1 s) l d.net
      (class_of_attributes (class_of_kind d.net) (joined_attributes attrs)) d.shape.range d.names
      (all-each IsDeclaredName d.names w.1.1.1) (none-back _ _ h))
  drawn_item at (integer attrs p xs) r s l w h =
      let ns = meanings_at at in
      both (IsDrawnPart es) _ (values_of at.scopes net.Reg xs) (declarations_drawn es at.path _)
      (drawn_names es ns at.scopes r.0 (r.1 s) l net.Reg
      (class_of_attributes class.Variable (joined_attributes attrs)) None xs
      (all-each IsDeclaredName xs w.1.1) (none-back _ _ h))
  drawn_item at (genvar attrs p xs) r s l w h = tt
  drawn_item at (parameter attrs p kind xs) r s l w h = tt
  drawn_item at (assign attrs p xs) r s l w h =
      drawn_assignments es (meanings_at at) at.scopes r.0 (r.1 s) l xs (all-each IsAssignment xs w.1.1) h
  drawn_item at (always attrs p event y) r s l w h =
      drawn_block es (meanings_at at) at.scopes r.0 (r.1 s) l event.kind y w.2
      (none-back (event_refusals (meanings_at at) event.pos event.kind) (stmt_refusals (meanings_at at) y) h)
  drawn_item at (initial attrs p y) r s l w h =
      drawn_initial es (meanings_at at) at.scopes r.0 (r.1 s) l y w.2 h
  drawn_item at (instance attrs p x) r s l w h = tt
  drawn_item at (generate attrs p mark) r s l w h = tt
  drawn_item at (for_loop attrs p head b) r s l w h = tt
  drawn_item at (if_only attrs p c b) r s l w h = tt
  drawn_item at (if_else attrs p c b d) r s l w h = tt

  drawn_step : (x : Step) → IsRight x → HasSoundNames x → HasOwnInput x → IsFormedStep x
      → StepScopes (AreScopes es) x → IsFine ms x → Each (IsDrawnPart es) (step_parts x)
  drawn_step (header at x) r s i w l h = tt
  drawn_step (port at u p q) r s i w l h =
      let ns = meanings_at at in (
        tt,
        drawn_given es ns at.scopes r.0 (r.1 s) l p.pos (port_kind q.net) q.name q.value w.0 w.1
            (subst (λ kind. NoneOf (given_value ns p.pos kind q.name q.value)) (same_kind q.net) (none-back _ _ h)),
      )
  drawn_step (item at x) r s i w l h = drawn_item at x r s l w h
  drawn_step (override at m u given x) r s i w l h = tt
  drawn_step (block_step at b) r s i w l h = tt
  drawn_step (connection at m u inside given x) r s i w l h =
      drawn_connection at m u inside es given x r.0 s.0 r.1 s.1 s.2 l.0 l.1 i w h

  drawn_steps : (xs : List Step) → Each IsRight xs → Each HasSoundNames xs → Each HasOwnInput xs
      → Each IsFormedStep xs → Each (StepScopes (AreScopes es)) xs → AreFine ms xs
      → Each (IsDrawnPart es) (parts_of_steps xs)
  drawn_steps [] r s i w l h = tt
  drawn_steps (x ∷ xs) r s i w l h =
      both (IsDrawnPart es) (step_parts x) (parts_of_steps xs) (drawn_step x r.0 s.0 i.0 w.0 l.0 h.0)
      (drawn_steps xs r.1 s.1 i.1 w.1 l.1 h.1)

-- ---- drivers and values at first

module _ (es : List Decl) where
  each_driven : (ps : List Part) → Each (IsDrawnPart es) ps → Each (IsDriver es) (drivers_of ps)
  each_driven [] h = tt
  each_driven (declares d ∷ ps) h = each_driven ps h.1
  each_driven (equation ts l ss e ∷ ps) h = (h.0, each_driven ps h.1)
  each_driven (combinational ss s ∷ ps) h = (h.0, each_driven ps h.1)
  each_driven (clocked ss s ∷ ps) h = (h.0, each_driven ps h.1)
  each_driven (starts ss l e ∷ ps) h = each_driven ps h.1

  abbrev IsDriven : Driver → Type 0
  IsDriven x = IsDriver es x.what

  of_kinds : (xs : List Driver) → Each (IsDriver es) (map (λ x. x.what) xs) → All IsDriven xs
  of_kinds [] h = All-nil IsDriven
  of_kinds (x ∷ xs) h = All-cons IsDriven x xs h.0 (of_kinds xs h.1)

  all_driven : (ps : List Part) → Each (IsDrawnPart es) ps → (xs : List Driver)
      → map (λ x. x.what) xs ≡ drivers_of ps → All IsDriven xs
  all_driven ps h xs e = of_kinds xs (subst (Each (IsDriver es)) (sym e) (each_driven ps h))

  abbrev IsStart : Start → Type 0
  IsStart x = IsAssigned es is_variable true x.target

  all_started : (ps : List Part) → Each (IsDrawnPart es) ps → All IsStart (starts_of ps)
  all_started [] h = All-nil IsStart
  all_started (declares d ∷ ps) h = all_started ps h.1
  all_started (equation ts l ss e ∷ ps) h = all_started ps h.1
  all_started (combinational ss s ∷ ps) h = all_started ps h.1
  all_started (clocked ss s ∷ ps) h = all_started ps h.1
  all_started (starts ss l e ∷ ps) h = All-cons IsStart _ (starts_of ps) h.0 (all_started ps h.1)

-- ---- the design

all_drawn : (ms : List Module) (top : List ℕ) → All IsModule ms → NoStepRefused ms top
    → Each (IsDrawnPart (decls_of (design ms top))) (design ms top)
all_drawn ms top formed e =
    drawn_steps ms (decls_of (design ms top)) (walk ms top) (walk_is_right ms top) (walk_sound ms top formed e)
    (walk_inputs ms top formed e) (walk_formed ms top formed e)
    (laid_walk ms top (names_differ ms top formed e)) (walk-fine ms top e)

pub design_driven : (ms : List Module) (top : List ℕ) (xs : List Driver) → All IsModule ms → NoStepRefused ms top
    → map (λ x. x.what) xs ≡ drivers_of (design ms top) → All (λ x. IsDriver (decls_of (design ms top)) x.what) xs
design_driven ms top xs formed e h =
    all_driven (decls_of (design ms top)) (design ms top) (all_drawn ms top formed e) xs h

pub design_started : (ms : List Module) (top : List ℕ) → All IsModule ms → NoStepRefused ms top
    → All (λ x. IsAssigned (decls_of (design ms top)) is_variable true x.target) (starts_of (design ms top))
design_started ms top formed e = all_started (decls_of (design ms top)) (design ms top) (all_drawn ms top formed e)
