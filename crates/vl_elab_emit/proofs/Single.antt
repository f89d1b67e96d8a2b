-- One part that is written behind the others.
use Rattle.std.specs.Prelude.{◌≡◌, refl, List, [], ◌∷◌, ◌++◌}
use Rattle.std.proofs.Common.{ap, sym, ◌∙◌, subst}
use Rattle.std.proofs.lemmas.List.{append-nil, map-append}
use Rattle.fv_text.specs.declared.pos.Pos.{Pos}
use Rattle.vl_tree.specs.Expr.{Expr}
use Rattle.vl_tree.specs.Lval.{Lval}
use Rattle.vl_tree.specs.Stmt.{Stmt}
use Rattle.vl_size.specs.declared.decl.Decl.{Decl}
use Rattle.vl_mean.specs.declared.driver.Driver.{Driver}
use Rattle.vl_mean.specs.declared.driver.DriverKind.{DriverKind}
use Rattle.vl_mean.specs.declared.driver.DriverKind.TheVariants as k
use Rattle.vl_mean.specs.Parts.{Part, declares, equation, combinational, clocked, starts}
use Rattle.vl_mean.specs.Scopes.{Scope}
use Rattle.vl_mean_flat.specs.Flattened.{decls_of, start_value}
use Rattle.vl_mean_flat.specs.FullNames.{flat_expr, flat_lval, flat_stmt}
use Rattle.vl_mean_flat.specs.DriverPlaces.{all_at, places_of}
use Rattle.vl_elab_draft.specs.Drawn.{drivers_of, starts_of}
use Rattle.vl_elab_draft.specs.Written.{Written, with_decl, with_kind, with_start}
use Rattle.vl_elab_emit.specs.Behind.{StandBehind, kinds_of, placed_at, unplaced}

one_declared : (w : Written) (d : Decl) → StandBehind w (unplaced (declares d ∷ [])) (with_decl w d)
one_declared w d = record {
  decls_are = refl;
  drivers_are = sym (append-nil (kinds_of w.drivers));
  places_are = sym (append-nil (places_of w.drivers));
  starts_are = sym (append-nil w.starts);
}

-- what drives
one_driven : (w : Written) (x : Part) (p : Pos) (what : DriverKind) → decls_of (x ∷ []) ≡ []
    → drivers_of (x ∷ []) ≡ what ∷ [] → all_at p (x ∷ []) ≡ p ∷ [] → starts_of (x ∷ []) ≡ []
    → StandBehind w (placed_at p (x ∷ [])) (with_kind w p what)
one_driven w x p what ds es ps ss =
    let driver : Driver = record { pos = p; what = what } in
    record {
      decls_are = sym (append-nil w.decls) ∙ ap (λ bs. w.decls ++ bs) (sym ds);
      drivers_are = map-append (λ (y : Driver). y.what) w.drivers (driver ∷ [])
          ∙ ap (λ bs. kinds_of w.drivers ++ bs) (sym es);
      places_are = map-append (λ (y : Driver). y.pos) w.drivers (driver ∷ [])
          ∙ ap (λ bs. places_of w.drivers ++ bs) (sym ps);
      starts_are = sym (append-nil w.starts) ∙ ap (λ bs. w.starts ++ bs) (sym ss);
    }

one_started : (w : Written) (ss : List Scope) (l : Lval) (e : Expr)
    → StandBehind w (unplaced (starts ss l e ∷ []))
    (with_start w (record { target = flat_lval ss l; value = start_value ss l e }))
one_started w ss l e = record {
  decls_are = sym (append-nil w.decls);
  drivers_are = sym (append-nil (kinds_of w.drivers));
  places_are = sym (append-nil (places_of w.drivers));
  starts_are = refl;
}

-- ---- of what a function hands out

pub declared_behind : (w v : Written) (d : Decl) → v ≡ with_decl w d → StandBehind w (unplaced (declares d ∷ [])) v
declared_behind w v d h = subst (StandBehind w (unplaced (declares d ∷ []))) (sym h) (one_declared w d)

pub equation_behind : (w v : Written) (p : Pos) (ts : List Scope) (l : Lval) (ss : List Scope) (e : Expr)
    → v ≡ with_kind w p (k.Assign (flat_lval ts l) (flat_expr ss e))
    → StandBehind w (placed_at p (equation ts l ss e ∷ [])) v
equation_behind w v p ts l ss e h =
    subst (StandBehind w (placed_at p (equation ts l ss e ∷ []))) (sym h)
    (one_driven w (equation ts l ss e) p (k.Assign (flat_lval ts l) (flat_expr ss e)) refl refl refl refl)

pub combinational_behind : (w v : Written) (p : Pos) (ss : List Scope) (x : Stmt)
    → v ≡ with_kind w p (k.Comb (flat_stmt ss x)) → StandBehind w (placed_at p (combinational ss x ∷ [])) v
combinational_behind w v p ss x h =
    subst (StandBehind w (placed_at p (combinational ss x ∷ []))) (sym h)
    (one_driven w (combinational ss x) p (k.Comb (flat_stmt ss x)) refl refl refl refl)

pub clocked_behind : (w v : Written) (p : Pos) (ss : List Scope) (x : Stmt)
    → v ≡ with_kind w p (k.Clocked (flat_stmt ss x)) → StandBehind w (placed_at p (clocked ss x ∷ [])) v
clocked_behind w v p ss x h =
    subst (StandBehind w (placed_at p (clocked ss x ∷ []))) (sym h)
    (one_driven w (clocked ss x) p (k.Clocked (flat_stmt ss x)) refl refl refl refl)

pub start_behind : (w v : Written) (ss : List Scope) (l : Lval) (e : Expr)
    → v ≡ with_start w (record { target = flat_lval ss l; value = start_value ss l e })
    → StandBehind w (unplaced (starts ss l e ∷ [])) v
start_behind w v ss l e h = subst (StandBehind w (unplaced (starts ss l e ∷ []))) (sym h) (one_started w ss l e)
