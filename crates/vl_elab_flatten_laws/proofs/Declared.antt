-- What steps that aren't refused declare has a shape in range, and a full name that is none of a memory's word.
use Rattle.std.specs.Prelude.{◌≡◌, refl, ℕ, ◌≤◌, List, [], ◌∷◌, ◌++◌, Bool, true, false, ◌&&◌, Option, Some, None, All}
use Rattle.std.proofs.Common.{sym, subst, arith}
use Rattle.vl_tree.specs.declared.declaration.DeclaredName.{DeclaredName}
use Rattle.vl_tree.specs.declared.declaration.NetKind.{NetKind}
use Rattle.vl_tree.specs.declared.declaration.NetKind.TheVariants as net
use Rattle.vl_tree.specs.declared.declaration.Range.{Range}
use Rattle.vl_tree.specs.declared.declaration.Shape.{Shape}
use Rattle.vl_tree.specs.declared.source.Module.{Module}
use Rattle.vl_tree.specs.DeclarationWellFormed.{IsDeclaredName, IsOptionalRange}
use Rattle.vl_tree.specs.ExprWellFormed.{IsName}
use Rattle.vl_tree.specs.Item.{Item, declaration, integer, genvar, parameter, assign, always, initial, instance}
use Rattle.vl_tree.specs.Item.{generate, for_loop, if_only, if_else}
use Rattle.vl_tree.specs.WellFormed.{IsModule, IsWellFormed}
use Rattle.vl_size.specs.declared.decl.Class.{Class}
use Rattle.vl_size.specs.declared.decl.Class.TheVariants as class
use Rattle.vl_size.specs.declared.decl.Decl.{Decl}
use Rattle.vl_size.specs.Table.{IsShaped, span}
use Rattle.vl_mean.specs.Declarations.{class_of_attributes, class_of_kind, class_of_port, declared_by}
use Rattle.vl_mean.specs.Declarations.{declared_integers}
use Rattle.vl_mean.specs.Declarations.{declared_names, is_output, integer_decl, joined_attributes, port_decl}
use Rattle.vl_mean.specs.Declarations.{port_named, ports_of, vector}
use Rattle.vl_mean.specs.Declarations.{vector_bounds}
use Rattle.vl_mean.specs.Parts.{Part, declares, equation, combinational, clocked, starts, declares_all, design}
use Rattle.vl_mean.specs.Parts.{item_parts, optional_value, parts_of_steps, port_kind, step_parts, values_of}
use Rattle.vl_mean.specs.Runs.{Each}
use Rattle.vl_mean.specs.Scopes.{Scope, constant_in}
use Rattle.vl_mean.specs.Walk.{Place, Step, header, port, item, override, connection, block_step, walk}
use Rattle.vl_mean_flat.specs.Flattened.{decls_of}
use Rattle.vl_mean_flat.proofs.EachOf.{both}
use Rattle.vl_mean_flat.proofs.LaidScopes.{decls_append}
use Rattle.vl_elab_spec.specs.Items.{declared_value, given_value, item_refusals, name_refusals, names_refusals}
use Rattle.vl_elab_spec.specs.Items.{port_net}
use Rattle.vl_elab_spec.specs.Items.{range_refusals, width_refusals}
use Rattle.vl_elab_spec.specs.Meanings.{Names, constants, declared_width, is_known_range, meanings_at}
use Rattle.vl_elab_accepted_laws.specs.Unrefused.{NoStepRefused}
use Rattle.vl_elab_accepted_laws.proofs.Declared.{assignments-none, block-none, connection-none, initial-none}
use Rattle.vl_elab_accepted_laws.proofs.Declared.{optional-none}
use Rattle.vl_elab_accepted_laws.proofs.Declared.{part_names, values-none}
use Rattle.vl_elab_accepted_laws.proofs.Fresh.{IsFine, NoneOf, none-front, none-back}
use Rattle.vl_elab_accepted_laws.proofs.Loops.{AreFine}
use Rattle.vl_elab_accepted_laws.proofs.Names.{names_differ}
use Rattle.vl_elab_accepted_laws.proofs.NoneRefused.{walk-fine}
use Rattle.vl_elab_accepted_laws.proofs.Plain.{all-each}
use Rattle.vl_elab_scope.specs.Seen.{AllNamed}
use Rattle.vl_elab_accepted_laws.specs.Sized.{AreSound, AreSure}
use Rattle.vl_elab_spec.specs.Among.{AreAmong}
use Rattle.vl_elab_spec.proofs.Stays.{known_bound}
use Rattle.vl_elab_accepted_laws.specs.Right.{IsRight}
use Rattle.vl_elab_accepted_laws.proofs.MeantWalked.{walk_is_right}
use Rattle.vl_elab_accepted_laws.specs.SoundSteps.{HasSoundBounds, HasSoundNames, IsFormedStep}
use Rattle.vl_elab_accepted_laws.proofs.Constants.{IsNarrow, first_true, second_true, shape_known}
use Rattle.vl_elab_accepted_laws.proofs.Reached.{sure_sound}
use Rattle.vl_elab_accepted_laws.proofs.SoundWalked.{walk_bounds, walk_formed, walk_sound}
use Rattle.vl_elab_accepted_laws.proofs.Paths.{IsClean}
use Rattle.vl_elab_accepted_laws.proofs.Printed.{walk_clean}
use Rattle.vl_elab_draft.specs.Ends.{EndsPlain}
use Rattle.vl_elab_draft.specs.Written.{nothing}
use Rattle.vl_elab_flatten_laws.proofs.Begun.{all_begin}
use Rattle.vl_elab_emit.specs.Behind.{MayStandBehind}
use Rattle.vl_elab_flatten_laws.proofs.Ended.{name_behind}

-- ---- what declares nothing

no_decls : (ps : List Part) → part_names ps ≡ [] → decls_of ps ≡ []
no_decls [] h = refl
no_decls (declares d ∷ ps) h = cc
no_decls (equation ts l ss e ∷ ps) h = no_decls ps h
no_decls (combinational ss s ∷ ps) h = no_decls ps h
no_decls (clocked ss s ∷ ps) h = no_decls ps h
no_decls (starts ss l e ∷ ps) h = no_decls ps h

-- ---- of each part

pub record IsDeclarable (d : Decl) : Type 0 where
  pub ended : EndsPlain d
  pub shaped : IsShaped d

abbrev AreDeclarable : List Part → Type 0
AreDeclarable ps = Each IsDeclarable (decls_of ps)

none_declarable : (ps : List Part) → part_names ps ≡ [] → AreDeclarable ps
none_declarable ps h = subst (Each IsDeclarable) (sym (no_decls ps h)) tt

both_declarable : (ps qs : List Part) → AreDeclarable ps → AreDeclarable qs → AreDeclarable (ps ++ qs)
both_declarable ps qs h k =
    subst (Each IsDeclarable) (sym (decls_append ps qs)) (both IsDeclarable (decls_of ps) (decls_of qs) h k)

-- under its own name
record IsNamedShape (d : Decl) : Type 0 where
  name : IsName d.name
  shape : IsShaped d

under_declarable : (path : List ℕ) (ds : List Decl) → Each IsNamedShape ds → AreDeclarable (declares_all path ds)
under_declarable path [] h = tt
under_declarable path (d ∷ ds) h = (
  record {
    ended = name_behind path d.name h.0.name;
    shaped = record {
      some_bits = h.0.shape.some_bits;
      few_bits = h.0.shape.few_bits;
      spans = h.0.shape.spans;
    };
  },
  under_declarable path ds h.1,
)

integer_shaped : (bounds : List Scope) (k : Class) (x : DeclaredName) → IsShaped (integer_decl bounds k x)
integer_shaped bounds k x = record { some_bits = omega arith; few_bits = omega arith; spans = refl }

integers_shaped : (bounds : List Scope) (k : Class) (xs : List DeclaredName) → Each IsDeclaredName xs
    → Each IsNamedShape (declared_integers bounds k xs)
integers_shaped bounds k [] w = tt
integers_shaped bounds k (x ∷ xs) w =
    (record { name = w.0.0; shape = integer_shaped bounds k x }, integers_shaped bounds k xs w.1)

module _ (ns : List Names) (named : AllNamed ns) (sure : AreSure ns) (bounds : List Scope)
    (among : AreAmong (constants ns) (constant_in bounds)) where
  width_is : (r : Option Range) → is_known_range ns r ≡ true
      → span (vector_bounds bounds r).0 (vector_bounds bounds r).1 ≡ declared_width ns r
  width_is None h = refl
  width_is (Some r) h =
      let left = first_true _ _ (first_true _ _ h) in
      let right = first_true _ _ (second_true _ _ h) in
      λ i. span (sym (known_bound ns (constant_in bounds) among r.left left) i)
      (sym (known_bound ns (constant_in bounds) among r.right right) i)

  vector_shaped : (k : Class) (shape : Shape) (text : List ℕ) (words : Option Range) (output : Bool)
      → IsNarrow ns shape.range → IsShaped (vector bounds k output shape text words)
  vector_shaped k shape text words output h =
      let few = h.few in
      let is = width_is shape.range h.known_so in
      record {
        some_bits = omega arith;
        few_bits = subst (λ n. n ≤ 128) (sym is) few;
        spans = refl;
      }

  names_shaped : (kind : NetKind) (k : Class) (shape : Shape) (xs : List DeclaredName) → IsOptionalRange shape.range
      → NoneOf (range_refusals ns shape.range) → Each IsDeclaredName xs
      → NoneOf (names_refusals ns kind k shape.range xs) → Each IsNamedShape (declared_names bounds k shape xs)
  names_shaped kind k shape [] wr r w h = tt
  names_shaped kind k shape (x ∷ xs) wr r w h =
      let here = none-front (name_refusals ns kind k shape.range x) (names_refusals ns kind k shape.range xs) h in
      let front = none-front _ (declared_value ns x.pos kind x.name x.words x.value) here in
      let sizes = none-front (range_refusals ns x.words ++ width_refusals ns x.pos shape.range) _ front in
      let narrow = shape_known ns named sure x.pos shape.range wr r
      (none-back (range_refusals ns x.words) (width_refusals ns x.pos shape.range) sizes) in (
        record { name = w.0.0; shape = vector_shaped k shape x.name x.words false narrow },
        names_shaped kind k shape xs wr r w.1
            (none-back (name_refusals ns kind k shape.range x) (names_refusals ns kind k shape.range xs) h),
      )

-- ---- of each step

item_declarable : (ms : List Module) (at : Place) (x : Item) → AllNamed (meanings_at at) → AreSure (meanings_at at)
    → AreAmong (constants (meanings_at at)) (constant_in at.around) → IsWellFormed x → NoneOf (item_refusals ms at x)
    → AreDeclarable (item_parts at x)
item_declarable ms at (declaration attrs p d) n s among w h =
    let ns = meanings_at at in
    let c : Class = class_of_attributes (class_of_kind d.net) (joined_attributes attrs) in
    let names = names_refusals ns d.net c d.shape.range d.names in
    both_declarable (declares_all at.path (declared_by at.around (declaration attrs p d)))
    (values_of at.scopes d.net d.names)
    (under_declarable at.path (declared_by at.around (declaration attrs p d))
    (names_shaped ns n s at.around among d.net c d.shape d.names w.1.0
    (none-back _ (range_refusals ns d.shape.range) (none-front _ names h))
    (all-each IsDeclaredName d.names w.1.1.1) (none-back _ names h)))
    (none_declarable (values_of at.scopes d.net d.names) (values-none at.scopes d.net d.names))
item_declarable ms at (integer attrs p xs) n s among w h =
    let c : Class = class_of_attributes class.Variable (joined_attributes attrs) in
    both_declarable (declares_all at.path (declared_by at.around (integer attrs p xs))) (values_of at.scopes net.Reg xs)
    (under_declarable at.path (declared_by at.around (integer attrs p xs))
    (integers_shaped at.around c xs (all-each IsDeclaredName xs w.1.1)))
    (none_declarable (values_of at.scopes net.Reg xs) (values-none at.scopes net.Reg xs))
item_declarable ms at (genvar attrs p xs) n s among w h = tt
item_declarable ms at (parameter attrs p kind xs) n s among w h = tt
item_declarable ms at (assign attrs p xs) n s among w h =
    none_declarable (item_parts at (assign attrs p xs)) (assignments-none at.scopes xs)
item_declarable ms at (always attrs p e y) n s among w h =
    none_declarable (item_parts at (always attrs p e y)) (block-none at.scopes e.kind y)
item_declarable ms at (initial attrs p y) n s among w h =
    none_declarable (item_parts at (initial attrs p y)) (initial-none at.scopes y)
item_declarable ms at (instance attrs p x) n s among w h = tt
item_declarable ms at (generate attrs p mark) n s among w h = tt
item_declarable ms at (for_loop attrs p head b) n s among w h = tt
item_declarable ms at (if_only attrs p c b) n s among w h = tt
item_declarable ms at (if_else attrs p c b d) n s among w h = tt

all_sure : (at : Place) → AreSound (meanings_at at) → AreSure (meanings_at at)
all_sure at s text = sure_sound _ (s text)

step_declarable : (ms : List Module) (x : Step) → IsRight x → HasSoundNames x → HasSoundBounds x → IsFormedStep x
    → IsClean x → IsFine ms x → AreDeclarable (step_parts x)
step_declarable ms (header at x) r s b w k h = tt
step_declarable ms (port at u p q) r s b w k h =
    let ns = meanings_at at in
    let front = none-front _ (given_value ns p.pos (port_net q.net) q.name q.value) h in
    let narrow = shape_known ns r.0 (all_sure at s) p.pos q.shape.range k.2
    (none-back _ (range_refusals ns q.shape.range) (none-front _ (width_refusals ns p.pos q.shape.range) front))
    (none-back _ (width_refusals ns p.pos q.shape.range) front) in
    both_declarable (declares_all at.path (port_decl at.around u.is_top u.input q ∷ []))
    (optional_value at.scopes (port_kind q.net) q.name q.value)
    (under_declarable at.path (port_decl at.around u.is_top u.input q ∷ []) (
      record {
        name = w.0;
        shape = vector_shaped ns r.0 (all_sure at s) at.around b (class_of_port u.input q q.direction q.net) q.shape
            q.name None (u.is_top && is_output q.direction) narrow;
      },
      tt,
    ))
    (none_declarable (optional_value at.scopes (port_kind q.net) q.name q.value)
    (optional-none at.scopes (port_kind q.net) q.name q.value))
step_declarable ms (item at x) r s b w k h = item_declarable ms at x r.0 (all_sure at s) b w h
step_declarable ms (override at m u given x) r s b w k h = tt
step_declarable ms (block_step at b) r s c w k h = tt
step_declarable ms (connection at m u inside given x) r s b w k h =
    none_declarable (step_parts (connection at m u inside given x))
    (connection-none at.scopes inside (port_named (ports_of m.ports) x.port) x.value)

steps_declarable : (ms : List Module) (xs : List Step) → Each IsRight xs → Each HasSoundNames xs
    → Each HasSoundBounds xs → Each IsFormedStep xs → Each IsClean xs → AreFine ms xs
    → AreDeclarable (parts_of_steps xs)
steps_declarable ms [] r s b w k h = tt
steps_declarable ms (x ∷ xs) r s b w k h =
    both_declarable (step_parts x) (parts_of_steps xs) (step_declarable ms x r.0 s.0 b.0 w.0 k.0 h.0)
    (steps_declarable ms xs r.1 s.1 b.1 w.1 k.1 h.1)

-- ---- the whole

all_declarable : (ms : List Module) (top : List ℕ) → All IsModule ms → NoStepRefused ms top
    → Each IsDeclarable (decls_of (design ms top))
all_declarable ms top formed e =
    steps_declarable ms (walk ms top) (walk_is_right ms top) (walk_sound ms top formed e) (walk_bounds ms top formed e)
    (walk_formed ms top formed e) (walk_clean ms top formed e) (walk-fine ms top e)

all_ended : (ds : List Decl) → Each IsDeclarable ds → Each EndsPlain ds
all_ended [] h = tt
all_ended (d ∷ ds) h = (h.0.ended, all_ended ds h.1)

all_shaped : (ds : List Decl) → Each IsDeclarable ds → Each IsShaped ds
all_shaped [] h = tt
all_shaped (d ∷ ds) h = (h.0.shaped, all_shaped ds h.1)

pub may_be_written : (ms : List Module) (top : List ℕ) → All IsModule ms → NoStepRefused ms top
    → MayStandBehind nothing (design ms top)
may_be_written ms top formed e =
    let all : Each IsDeclarable (decls_of (design ms top)) = all_declarable ms top formed e in
    record {
      different = names_differ ms top formed e;
      ended = all_ended (decls_of (design ms top)) all;
      shaped = all_shaped (decls_of (design ms top)) all;
      begun = all_begin ms top formed e;
    }
