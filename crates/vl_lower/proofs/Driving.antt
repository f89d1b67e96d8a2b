-- What a driver does to a frame, from what its statement does.
use Rattle.std.specs.Prelude.{◌≡◌, refl, ℕ, ◌<◌, List, [], ◌∷◌, Option, None, Some, Bool, true, false, not}
use Rattle.std.specs.Prelude.{zero, suc, ◌+◌, ◌++◌, length, take, slice_get, slice_index_or}
use Rattle.std.proofs.lemmas.List.{take_more}
use Rattle.std.proofs.lemmas.Option.{get_or_from_slice_get, slice_get_within}
use Rattle.std.proofs.Common.{ap, sym, ◌∙◌, arith, subst, true≢false}
use Rattle.vl_tree.specs.declared.stmt.AssignKind.TheVariants as a
use Rattle.vl_tree.specs.Attributes.{Attributes}
use Rattle.fv_text.specs.declared.pos.Pos.{Pos}
use Rattle.vl_tree.specs.Expr.{Expr}
use Rattle.vl_tree.specs.Lval.{Lval}
use Rattle.vl_tree.specs.Stmt.{Stmt, assign}
use Rattle.vl_size.specs.declared.decl.Decl.{Decl}
use Rattle.vl_size.specs.Size.{Values}
use Rattle.vl_mean.specs.declared.driver.Driver.{Driver}
use Rattle.vl_mean.specs.declared.driver.DriverKind.{DriverKind}
use Rattle.vl_mean.specs.declared.driver.DriverKind.TheVariants as k
use Rattle.vl_flow_spec.specs.Drivers.{is_clocked}
use Rattle.vl_flow_spec.specs.Sequence.{is_settled}
use Rattle.vl_lower_cell_laws.specs.Ticked.{stored_by}
use Rattle.vl_lower_cell_laws.specs.Left.{seen_at_edge}
use Rattle.wn_net.proofs.Laws.{adds_none}
use Rattle.vl_mean.specs.Execution.{begun, exec}
use Rattle.vl_mean.specs.FlatLaw.{flat_scopes}
use Rattle.vl_mean.specs.Runs.{Each}
use Rattle.wn_net.specs.Value.{Given}
use Rattle.wn_net.specs.Net.{Netlist, AreNodes, value_at}
use Rattle.vl_lower_assign.specs.Frames.{AreCellsOf, Cells, IsFrame, Stand, StandsFor, taken_back}
use Rattle.vl_lower_assign.specs.Tracks.{AreTracks}
use Rattle.vl_lower_assign.specs.Stored.{stored}
use Rattle.vl_lower_assign.proofs.Behind.{cells_on, stand_on}
use Rattle.vl_lower_stmt.specs.Executes.{Executes}
use Rattle.vl_lower_cell_laws.specs.Cycles.{Settles, Tell, Ticks, Turns}

module _ (ds : List Decl) (old new : Netlist) (f h : Cells) (empty : f.assumed ≡ []) where
  stands : (g : Given) (v w : Values) → Stand old g ds f.now v → Stand old g ds f.next w
      → StandsFor old g ds f (begun v) w
  stands g v w first later = record {
    now = first;
    next = later;
    assumed = (
      λ t. subst (Each (λ id. 0 < value_at old g id)) (sym empty) tt,
      λ t. tt,
    );
  }

  pub assign_settles : (attrs : Attributes) (p : Pos) (l : Lval) (e : Expr)
      → Executes ds old new f h None (assign attrs p l a.Blocking e)
      → Settles ds old new f h h.assumed (k.Assign l e)
  assign_settles attrs p l e s = record {
    adds = s.adds;
    frame = s.frame;
    there = s.frame.assumed;
    comes = λ g v w is first later.
        let r = s.comes g (begun v) w is (stands g v w first later) in (r.now, r.next, r.assumed);
  }

  pub block_settles : (z : Stmt) → Executes ds old new f h None z → Settles ds old new f h h.assumed (k.Comb z)
  block_settles z s = record {
    adds = s.adds;
    frame = s.frame;
    there = s.frame.assumed;
    comes = λ g v w is first later.
        let r = s.comes g (begun v) w is (stands g v w first later) in (r.now, r.next, r.assumed);
  }

  -- a clocked block, whose cells are taken back
  pub block_ticks : (z : Stmt) (b : Cells) → IsFrame old ds f → f.log ≡ [] → Executes ds old new f h None z
      → b.now ≡ taken_back h.log h.now → b.next ≡ h.next → b.assumed ≡ h.assumed
      → b.tracks ≡ h.tracks → Ticks ds old new f b b.assumed (k.Clocked z)
  block_ticks z b own log s now next assumed tracks = record {
    adds = s.adds;
    frame = record {
      now = subst (AreCellsOf new ds) (sym back) (cells_on old new ds f.now s.adds own.now);
      next = subst (AreCellsOf new ds) (sym next) s.frame.next;
      assumed = subst (AreNodes new) (sym assumed) s.frame.assumed;
      tracks =
          subst (AreTracks new b.next) (sym tracks)
          (subst (λ (cells : List ℕ). AreTracks new cells h.tracks) (sym next) s.frame.tracks);
    };
    there = subst (AreNodes new) (sym assumed) s.frame.assumed;
    comes = λ g v w is first later.
        let r = s.comes g (begun v) w is (stands g v w first later) in (
          subst (λ cs. Stand new g ds cs v) (sym back) (stand_on old new g ds f.now v s.adds own.now first),
          subst (λ cs. Stand new g ds cs (stored (flat_scopes ds) z (begun v) w)) (sym next) r.next,
          subst (λ ids. Tell new g (exec (flat_scopes ds) z (begun v)).seen ids) (sym assumed) r.assumed,
        );
  }
    where
      back : b.now ≡ f.now
      back = now ∙ s.back ∙ ap (λ cs. taken_back cs f.now) log

-- ---- a driver that is no clocked block does nothing at the edge

module _ (ds : List Decl) (net : Netlist) (f : Cells) (own : IsFrame net ds f) (empty : f.assumed ≡ []) where
  pub none_ticks : (x : DriverKind) → is_clocked x ≡ false → Ticks ds net net f f f.assumed x
  none_ticks x free = record {
    adds = adds_none net;
    frame = own;
    there = own.assumed;
    comes = λ g v w is first later.
        let stays = idle x free in (
          first,
          subst (λ m. Stand net g ds f.next m) (sym (stays.0 v w)) later,
          subst (λ ids. Tell net g (seen_at_edge ds x v) ids) (sym empty)
              (subst (λ zs. Tell net g zs []) (sym (stays.1 v)) ((λ t. tt, λ t. tt))),
        );
  }
    where
      idle : (y : DriverKind) → is_clocked y ≡ false
          → ((v w : Values) → stored_by ds y v w ≡ w) × ((v : Values) → seen_at_edge ds y v ≡ [])
      idle (k.Assign l e) t = (λ v w. refl, λ v. refl)
      idle (k.Comb z) t = (λ v w. refl, λ v. refl)
      idle (k.Clocked z) t = absurd (true≢false t)

-- ---- what was assumed is handed over

module _ (ds : List Decl) (old new : Netlist) (f h k : Cells) (nodes : List ℕ) (kept : h.assumed ≡ nodes)
    (now : k.now ≡ h.now) (next : k.next ≡ h.next) (empty : k.assumed ≡ []) (tracks : k.tracks ≡ h.tracks) where
  pub handed : (first : Values → Values) (after : Values → Values → Values) (seen : Values → List ℕ)
      → Turns old new ds f h h.assumed first after seen → Turns old new ds f k nodes first after seen
  handed first after seen t = record {
    adds = t.adds;
    frame = record {
      now = subst (AreCellsOf new ds) (sym now) t.frame.now;
      next = subst (AreCellsOf new ds) (sym next) t.frame.next;
      assumed = subst (AreNodes new) (sym empty) tt;
      tracks =
          subst (AreTracks new k.next) (sym tracks)
          (subst (λ (cells : List ℕ). AreTracks new cells h.tracks) (sym next) t.frame.tracks);
    };
    there = subst (AreNodes new) kept t.there;
    comes = λ g v w is first_stands later.
        let r = t.comes g v w is first_stands later in (
          subst (λ cs. Stand new g ds cs (first v)) (sym now) r.0,
          subst (λ cs. Stand new g ds cs (after v w)) (sym next) r.1,
          subst (λ ids. Tell new g (seen v) ids) kept r.2,
        );
  }

-- ---- which drivers are settled

pub unclocked : (x : DriverKind) → ((s : Stmt) → x ≡ k.Clocked s → ⊥) → is_clocked x ≡ false
unclocked (k.Assign l e) h = refl
unclocked (k.Comb s) h = refl
unclocked (k.Clocked s) h = absurd (h s refl)

-- a number of the sequence is that of a driver that isn't clocked
pub settled_some : (o : Option Driver) → is_settled o ≡ true
    → (x : Driver) × (o ≡ Some x) × (is_clocked x.what ≡ false)
settled_some None h = absurd (true≢false (sym h))
settled_some (Some x) h = (x, refl, of_not (is_clocked x.what) h)
  where
    of_not : (b : Bool) → not b ≡ true → b ≡ false
    of_not true e = sym e
    of_not false e = refl

-- ---- one more of a list

pub get_index : (xs : List ℕ) (at : ℕ) → at < length xs → slice_get xs at ≡ Some (slice_index_or xs at 0)
get_index [] at less = absurd (omega (arith, less))
get_index (x ∷ xs) zero less = refl
get_index (x ∷ xs) (suc at) less = get_index xs at (omega (arith, less))

pub take_get : {A : Type 0} (xs : List A) (at : ℕ) (x : A) → slice_get xs at ≡ Some x
    → take (at + 1) xs ≡ take at xs ++ x ∷ []
take_get xs at x e =
    take_more xs at x (slice_get_within xs at x e)
    ∙ ap (λ y. take at xs ++ y ∷ []) (get_or_from_slice_get xs at x x e)
