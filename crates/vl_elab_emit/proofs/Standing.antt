-- Parts that stand behind what is written, and parts behind those.
use Rattle.std.specs.Prelude.{◌≡◌, refl, ℕ, List, [], ◌∷◌, ◌++◌, false, ◌||◌, bytes_eq}
use Rattle.std.proofs.Common.{ap, sym, ◌∙◌, subst, append_assoc}
use Rattle.std.proofs.lemmas.List.{append-nil}
use Rattle.vl_size.specs.declared.decl.Decl.{Decl}
use Rattle.vl_size.specs.Table.{AreDifferent, IsShaped, is_declared}
use Rattle.fv_text.proofs.Lookups.{bytes_eq-swap}
use Rattle.vl_mean.specs.declared.driver.DriverKind.TheVariants as k
use Rattle.vl_mean.specs.declared.driver.Start.{Start}
use Rattle.vl_mean.specs.Parts.{Part, declares, equation, combinational, clocked, starts}
use Rattle.vl_mean.specs.Runs.{Each}
use Rattle.vl_mean_flat.specs.Flattened.{decls_of, start_value}
use Rattle.vl_mean_flat.specs.FullNames.{flat_expr, flat_lval, flat_stmt}
use Rattle.vl_mean_flat.proofs.EachOf.{front, back}
use Rattle.vl_mean_flat.proofs.LaidScopes.{decls_append}
use Rattle.vl_elab_accepted_laws.proofs.Contained.{or_first, or_second}
use Rattle.vl_mean_flat.specs.DriverPlaces.{places_of}
use Rattle.vl_elab_draft.specs.Drawn.{drivers_of, starts_of}
use Rattle.vl_elab_draft.specs.Ends.{EndsPlain}
use Rattle.vl_elab_draft.specs.Written.{Written}
use Rattle.vl_elab_emit.specs.Begins.{Begins}
use Rattle.vl_elab_emit.specs.Behind.{MayStandBehind, Placed, StandBehind, followed_by, kinds_of, unplaced}

drivers_append : (ps qs : List Part) → drivers_of (ps ++ qs) ≡ drivers_of ps ++ drivers_of qs
drivers_append [] qs = refl
drivers_append (declares d ∷ ps) qs = drivers_append ps qs
drivers_append (equation ts l ss e ∷ ps) qs =
    ap (λ ds. k.Assign (flat_lval ts l) (flat_expr ss e) ∷ ds) (drivers_append ps qs)
drivers_append (combinational ss s ∷ ps) qs = ap (λ ds. k.Comb (flat_stmt ss s) ∷ ds) (drivers_append ps qs)
drivers_append (clocked ss s ∷ ps) qs = ap (λ ds. k.Clocked (flat_stmt ss s) ∷ ds) (drivers_append ps qs)
drivers_append (starts ss l e ∷ ps) qs = drivers_append ps qs

starts_append : (ps qs : List Part) → starts_of (ps ++ qs) ≡ starts_of ps ++ starts_of qs
starts_append [] qs = refl
starts_append (declares d ∷ ps) qs = starts_append ps qs
starts_append (equation ts l ss e ∷ ps) qs = starts_append ps qs
starts_append (combinational ss s ∷ ps) qs = starts_append ps qs
starts_append (clocked ss s ∷ ps) qs = starts_append ps qs
starts_append (starts ss l e ∷ ps) qs =
    let start : Start = record { target = flat_lval ss l; value = start_value ss l e } in
    ap (λ xs. start ∷ xs) (starts_append ps qs)

-- ---- what is written

pub nothing_more : (w : Written) → StandBehind w (unplaced []) w
nothing_more w = record {
  decls_are = sym (append-nil w.decls);
  drivers_are = sym (append-nil (kinds_of w.drivers));
  places_are = sym (append-nil (places_of w.drivers));
  starts_are = sym (append-nil w.starts);
}

joined_on : {A : Type 0} (us ws vs xs ys zs : List A) → us ≡ vs ++ ys → vs ≡ ws ++ xs → zs ≡ xs ++ ys → us ≡ ws ++ zs
joined_on us ws vs xs ys zs h k e =
    h ∙ ap (λ bs. bs ++ ys) k ∙ append_assoc ws xs ys ∙ ap (λ bs. ws ++ bs) (sym e)

pub both_behind : (w v u : Written) (xs ys : Placed) → StandBehind w xs v → StandBehind v ys u
    → StandBehind w (followed_by xs ys) u
both_behind w v u xs ys h k =
    let ps = xs.parts in
    let qs = ys.parts in
    record {
      decls_are = joined_on u.decls w.decls v.decls (decls_of ps) (decls_of qs) (decls_of (ps ++ qs)) k.decls_are
          h.decls_are (decls_append ps qs);
      drivers_are = joined_on (kinds_of u.drivers) (kinds_of w.drivers) (kinds_of v.drivers) (drivers_of ps)
          (drivers_of qs) (drivers_of (ps ++ qs)) k.drivers_are h.drivers_are (drivers_append ps qs);
      places_are = joined_on (places_of u.drivers) (places_of w.drivers) (places_of v.drivers) xs.places ys.places
          (xs.places ++ ys.places) k.places_are h.places_are refl;
      starts_are = joined_on u.starts w.starts v.starts (starts_of ps) (starts_of qs) (starts_of (ps ++ qs))
          k.starts_are h.starts_are (starts_append ps qs);
    }

-- ---- what may be written

declared_front : (ds es : List Decl) (name : List ℕ) → is_declared (ds ++ es) name ≡ false
    → is_declared ds name ≡ false
declared_front [] es name h = refl
declared_front (d ∷ ds) es name h =
    let here : bytes_eq name d.name ≡ false = or_first (bytes_eq name d.name) (is_declared (ds ++ es) name) h in
    let rest : is_declared ds name ≡ false
    = declared_front ds es name (or_second (bytes_eq name d.name) (is_declared (ds ++ es) name) h) in
    λ i. here i || rest i

different_front : (ds es : List Decl) → AreDifferent (ds ++ es) → AreDifferent ds
different_front [] es h = tt
different_front (d ∷ ds) es h = (declared_front ds es d.name h.0, different_front ds es h.1)

-- one that stands behind has a name of its own
declared_behind : (ds es : List Decl) (d : Decl) (name : List ℕ) → is_declared (ds ++ d ∷ es) name ≡ false
    → bytes_eq name d.name ≡ false
declared_behind [] es d name h = or_first (bytes_eq name d.name) (is_declared es name) h
declared_behind (c ∷ ds) es d name h =
    declared_behind ds es d name (or_second (bytes_eq name c.name) (is_declared (ds ++ d ∷ es) name) h)

fresh_behind : (ds es : List Decl) (d : Decl) → AreDifferent (ds ++ d ∷ es) → is_declared ds d.name ≡ false
fresh_behind [] es d h = refl
fresh_behind (c ∷ ds) es d h =
    let here : bytes_eq d.name c.name ≡ false = bytes_eq-swap d.name c.name ∙ declared_behind ds es d c.name h.0 in
    let rest : is_declared ds d.name ≡ false = fresh_behind ds es d h.1 in
    λ i. here i || rest i

append_both : (w : Written) (ps qs : List Part)
    → w.decls ++ decls_of (ps ++ qs) ≡ (w.decls ++ decls_of ps) ++ decls_of qs
append_both w ps qs =
    ap (λ ds. w.decls ++ ds) (decls_append ps qs) ∙ sym (append_assoc w.decls (decls_of ps) (decls_of qs))

pub may_front : (w : Written) (ps qs : List Part) → MayStandBehind w (ps ++ qs) → MayStandBehind w ps
may_front w ps qs h = record {
  different = different_front (w.decls ++ decls_of ps) (decls_of qs)
      (subst AreDifferent (append_both w ps qs) h.different);
  ended = front EndsPlain (decls_of ps) (decls_of qs) (subst (Each EndsPlain) (decls_append ps qs) h.ended);
  shaped = front IsShaped (decls_of ps) (decls_of qs) (subst (Each IsShaped) (decls_append ps qs) h.shaped);
  begun = front Begins ps qs h.begun;
}

pub may_back : (w v : Written) (xs : Placed) (qs : List Part) → MayStandBehind w (xs.parts ++ qs)
    → StandBehind w xs v → MayStandBehind v qs
may_back w v xs qs h k =
    let ps = xs.parts in
    record {
      different = subst AreDifferent (append_both w ps qs ∙ ap (λ ds. ds ++ decls_of qs) (sym k.decls_are)) h.different;
      ended = back EndsPlain (decls_of ps) (decls_of qs) (subst (Each EndsPlain) (decls_append ps qs) h.ended);
      shaped = back IsShaped (decls_of ps) (decls_of qs) (subst (Each IsShaped) (decls_append ps qs) h.shaped);
      begun = back Begins ps qs h.begun;
    }

pub fresh : (w : Written) (d : Decl) (ps : List Part) → MayStandBehind w (declares d ∷ ps)
    → is_declared w.decls d.name ≡ false
fresh w d ps h = fresh_behind w.decls (decls_of ps) d h.different

-- ---- in a loop: the parts from here on, of all that begin behind w

-- what stands behind with the rest stands behind w with all
pub record Rest (start : Written) (all : Placed) (w : Written) (rest : Placed) : Type 0 where
  pub joins : (v : Written) → StandBehind w rest v → StandBehind start all v

pub rest_first : (w : Written) (all : Placed) → Rest w all w all
rest_first w all = record { joins = λ v h. h }

pub rest_next : (start : Written) (all : Placed) (w v : Written) (rest xs ys : Placed) → Rest start all w rest
    → rest ≡ followed_by xs ys → StandBehind w xs v → Rest start all v ys
rest_next start all w v rest xs ys r e h = record {
  joins = λ u k. r.joins u (subst (λ ts. StandBehind w ts u) (sym e) (both_behind w v u xs ys h k));
}

pub rest_last : (start : Written) (all : Placed) (w : Written) (rest : Placed) → Rest start all w rest
    → rest ≡ unplaced [] → StandBehind start all w
rest_last start all w rest r e = r.joins w (subst (λ ts. StandBehind w ts w) (sym e) (nothing_more w))

pub may_first : (w : Written) (rest ps qs : List Part) → MayStandBehind w rest → rest ≡ ps ++ qs → MayStandBehind w ps
may_first w rest ps qs h e = may_front w ps qs (subst (MayStandBehind w) e h)

pub may_next : (w v : Written) (rest : List Part) (xs : Placed) (qs : List Part) → MayStandBehind w rest
    → rest ≡ xs.parts ++ qs → StandBehind w xs v → MayStandBehind v qs
may_next w v rest xs qs h e k = may_back w v xs qs (subst (MayStandBehind w) e h) k
