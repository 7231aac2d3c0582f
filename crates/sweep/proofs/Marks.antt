-- The delete mark of a finished object that is listed: what a store of it does to the image, and how the object reads then.
use mathlib.Core.Path.{◌≡◌, refl, sym, ap, ap₂, ◌∙◌}
use mathlib.Core.Logic.{◌⊎◌, inl, inr, ◌≢◌}
use mathlib.Core.Bool.{true}
use mathlib.Core.List.{List, [], ◌∷◌, ◌++◌, append-nil}
use Prim.Native.Nat.{ℕ, ◌+◌, ◌%◌, ◌≤◌, ◌<◌}
use native.Mathlib.Nat.{add-zero}
use native.Mathlib.Omega.{arith}
use lib.ListN.{length, get_or}
use lib.Bits.{and_zero_r}
use Rattle.medium.specs.declared.geometry.Geometry.{Geometry}
use Rattle.medium.specs.declared.fuse.Fuse.{Fuse}
use Rattle.std.specs.Prelude.{Ok}
use Rattle.medium.specs.Fuse.{Stored}
use Rattle.medium.specs.Granularity.{width_of, finish_at, delete_at, size_at, header, block_header}
use Rattle.medium.specs.Geometry.{check_of, address}
use Rattle.medium.specs.Units.{FlashUnit}
use Rattle.medium.specs.Operation.{flash, apply, done, Op, ◌>>◌, give, test, run, End, ended_by}
use Rattle.medium.specs.Medium.{write, units_at}
use Rattle.objects.specs.declared.types.ObjectType.{ObjectType}
use Rattle.objects.specs.declared.state.ObjectDataState.TheVariants.{Valid, Deleted}
use Rattle.objects.specs.declared.state.CompositeObjectState.TheVariants.{Allocated}
use Rattle.objects.specs.declared.state.ObjectState.TheVariants as state
use Rattle.objects.specs.declared.header.ObjectHeader.{ObjectHeader}
use Rattle.objects.specs.Numbers.{number}
use Rattle.objects.specs.Header.{header_at, set_state, marking, update_state}
use Rattle.objects.specs.Info.{found, info_at, span_of}
use Rattle.objects.specs.Listing.{Visit, listing}
use Rattle.blocks.specs.declared.header.BlockType.{BlockType}
use Rattle.storage.specs.Order.{is_of}
use Rattle.sweep.specs.Laws.{mark_place}
use Rattle.medium.proofs.Runs.{leb_is, run_done, value_of, bound}
use Rattle.medium.proofs.Bytes.{Off, length-apply}
use Rattle.medium.proofs.Bytes as bytes
use Rattle.medium.proofs.Programs.{pad_kept}
use Rattle.medium.proofs.Padding.{AreBytes}
use Rattle.medium.proofs.Frame.{part_same}
use Rattle.medium.proofs.Places.{Laid, laid, headed, even_add, align_even}
use Rattle.medium.proofs.Checks.{Fine, within, fine_of_check}
use Rattle.medium.proofs.Traced.{ran, tested, store_ran, power_cut}
use Rattle.medium.proofs.Writes.{write_ran, write_stored}
use Rattle.medium.proofs.Left as left
use Rattle.shown.proofs.Reading.{state_seen, size_seen, Told, header_back, Shown, shown, seen_object, mark_deleted, header_of, header_read}
use Rattle.shown.proofs.Walk.{visit, span_at, Walked, Reached, reached, info_back, span_least}

-- ---- a finished object that is listed in a block of a type

pub record Listed (g : Geometry) (t : BlockType) (h : ObjectHeader) (img : List ℕ) : Type 0 where
  pub kind : is_of g t h.location.block img ≡ done true
  pub type : ObjectType
  pub state : h.state ≡ Allocated type Valid
  pub before : List Visit
  pub after : List Visit
  pub is : (listing g h.location.block img).visits ≡ before ++ visit g h.location.block h.location.offset h ∷ after

-- the units of its mark
abbrev pub mark_units : Geometry → ObjectHeader → List FlashUnit
mark_units g h = units_at g h.location.block (h.location.offset + delete_at g.granularity) (0 ∷ [])

-- as it reads with the mark
abbrev pub gone_of : ObjectHeader → ObjectType → ObjectHeader
gone_of h t = header_of (Allocated t Deleted) h.size h.location

-- the other image is this one with the mark
pub record Marked (g : Geometry) (h : ObjectHeader) (img other : List ℕ) : Type 0 where
  pub long : length other ≡ length img
  pub mark : get_or other (mark_place g h) 0 ≡ 0
  pub elsewhere : (j : ℕ) → j ≢ mark_place g h → get_or other j 0 ≡ get_or img j 0

pub marked_bytes : (g : Geometry) (h : ObjectHeader) (img other : List ℕ) → Marked g h img other → AreBytes img → AreBytes other
marked_bytes g h img other m b j = go (eq_is j (mark_place g h))
  where
    eq_is : (i k : ℕ) → (i ≡ k) ⊎ (i ≢ k)
    eq_is i k = both (leb_is i k) (leb_is k i)
      where
        both : (i ≤ k) ⊎ (k < i) → (k ≤ i) ⊎ (i < k) → (i ≡ k) ⊎ (i ≢ k)
        both (inl x) (inl y) = inl (omega arith)
        both (inl x) (inr y) = inr (λ e. omega arith)
        both (inr x) y = inr (λ e. omega arith)

    go : (j ≡ mark_place g h) ⊎ (j ≢ mark_place g h) → get_or other j 0 < 256
    go (inl e) = omega (arith, ap (λ (x : ℕ). get_or other x 0) e, m.mark)
    go (inr n) = omega (arith, m.elsewhere j n, b j)

-- ---- where the object lies

-- each offset of a walk is aligned
even_walk : (g : Geometry) (b : ℕ) (img : List ℕ) (vs : List Visit) (o e : ℕ) → o % width_of g.granularity ≡ 0 → Walked g b img o vs e → e % width_of g.granularity ≡ 0
even_walk g b img [] o e a w = ap (λ (x : ℕ). x % width_of g.granularity) (sym w) ∙ a
even_walk g b img (v ∷ vs) o e a w = even_walk g b img vs (o + span_at g b v.object) e (even_add g.granularity o (span_at g b v.object) a (align_even g.granularity _)) w.3

module _ (g : Geometry) (t : BlockType) (h : ObjectHeader) (img : List ℕ) (fine : check_of g (length img) ≡ 0) (v : Listed g t h img) where
  abbrev b : ℕ
  b = h.location.block

  abbrev off : ℕ
  off = h.location.offset

  abbrev p : ℕ
  p = address g h.location.block h.location.offset

  pub at_object : Reached g b g.size img (block_header g.granularity) v.before v.after (visit g b off h)
  unfolding listing
  at_object = reached g b g.size img (block_header g.granularity) v.before v.after (visit g b off h) v.is

  pub header_is : header_at g h.location img ≡ done h
  header_is = info_back g b off img h at_object.info

  told : Told g h.location img h
  told = header_back g h.location img h header_is

  pub listed_block : h.location.block < g.count
  listed_block = told.block

  pub listed_even : h.location.offset % width_of g.granularity ≡ 0
  listed_even = even_walk g b img v.before (block_header g.granularity) off (headed g.granularity).block_even at_object.walked

  fine_is : Fine g (length img)
  fine_is = fine_of_check g (length img) (check_of g (length img)) refl fine

  l : Laid g.granularity g.s 0
  l = laid g.granularity g.s 0 fine_is.sound.s_most

  -- its header lies in the block, and the block in the image
  pub in_image : p + header g.granularity g.s ≤ length img
  in_image = omega (arith, within b off (header g.granularity g.s) g.size g.count (length img) listed_block (omega (arith, at_object.fits)) fine_is.whole)

  pub mark_header : delete_at g.granularity + width_of g.granularity ≤ header g.granularity g.s
  mark_header = omega (arith, l)

  pub mark_wide : 0 < width_of g.granularity
  mark_wide = l.pos

  pub mark_span : delete_at g.granularity + width_of g.granularity ≤ span_of g.granularity g.s h
  mark_span = omega (arith, l, span_least g b img fine h)

  -- ---- the store

  pub delete_ran : (g.strict ≡ 1 → ⊥) → (m : List ℕ) → length m ≡ length img → update_state g h state.Deleted m ≡ ran (mark_units g h) (gone_of h v.type)
  unfolding update_state set_state marking
  delete_ran plain m e =
      let f : check_of g (length m) ≡ 0 = ap (check_of g) e ∙ fine in
      rw v.state
      (tested (λ i. check_of g (length i)) (marking g h v.type Deleted) m (mark_units g h) (gone_of h v.type) f
      (store_ran (write g b (off + delete_at g.granularity) (0 ∷ [])) m (mark_units g h) (gone_of h v.type)
      (write_ran g b (off + delete_at g.granularity) (0 ∷ []) m f listed_block (even_add g.granularity off (delete_at g.granularity) listed_even l.delete_even) (omega (arith, l, at_object.fits))
      (λ on. absurd (plain on)))))

  -- where it is done it stored its unit
  delete_stored : (m : List ℕ) (x : ObjectHeader) → (update_state g h state.Deleted m).answer ≡ done x → update_state g h state.Deleted m ≡ ran (mark_units g h) (gone_of h v.type)
  unfolding update_state set_state marking
  delete_stored m x e =
      let stored : Op ObjectHeader = write g b (off + delete_at g.granularity) (0 ∷ []) >> give (gone_of h v.type) in
      let e1 : ((test {W = flash} (λ i. check_of g (length i)) >> stored) m).answer ≡ done x = rw v.state at e in
      let t = left.tested (λ i. check_of g (length i)) (λ _. stored) m x e1 in
      let w = bound (write g b (off + delete_at g.granularity) (0 ∷ [])) (λ _. give (gone_of h v.type)) m x (rw t at e1) in
      rw v.state
      (t ∙ store_ran (write g b (off + delete_at g.granularity) (0 ∷ [])) m (mark_units g h) (gone_of h v.type) (write_stored g b (off + delete_at g.granularity) (0 ∷ []) m w.value w.first))

  pub marked_by : AreBytes img → Marked g h img (apply (mark_units g h) img)
  marked_by byte =
      record {
        long = length-apply (mark_units g h) img;
        mark = at_mark;
        elsewhere = λ j ne. pad_kept (width_of g.granularity) l.pos (mark_place g h) (0 ∷ []) img j (aside j ne (leb_is (mark_place g h) j) (leb_is (mark_place g h + 1) j)) (omega (arith, l, in_image)) (byte j);
      }
    where
      at_mark : get_or (apply (mark_units g h) img) (mark_place g h) 0 ≡ 0
      at_mark =
          ap₂ (λ (us : List FlashUnit) (x : ℕ). get_or (apply us img) x 0) (sym (append-nil (mark_units g h))) (sym (add-zero (mark_place g h)))
          ∙ bytes.stored (width_of g.granularity) l.pos [] [] (mark_place g h) (0 ∷ []) 0 img tt tt (omega arith) (omega (arith, l, in_image))
          ∙ and_zero_r (get_or img (mark_place g h + 0) 0)

      aside : (j : ℕ) → j ≢ mark_place g h → (mark_place g h ≤ j) ⊎ (j < mark_place g h) → (mark_place g h + 1 ≤ j) ⊎ (j < mark_place g h + 1) → Off (mark_place g h) 1 j
      aside j ne (inr c) d = inl c
      aside j ne (inl c) (inl d) = inr d
      aside j ne (inl c) (inr d) = absurd (ne (omega arith))

  -- with a fuse that was enough
  pub delete_done : (f left : Fuse) (a : Stored) (after : ObjectHeader) (m : List ℕ) → ended_by a after m ≡ run f (update_state g h state.Deleted) img → a ≡ Ok left
      → m ≡ apply (mark_units g h) img
  delete_done f left a after m e d =
      let q : record { answer = done after; fuse = left; state = m } ≡ run f (update_state g h state.Deleted) img = rw d at e in
      ap (λ (x : End ObjectHeader). x.state) q
      ∙ run_done f (update_state g h state.Deleted) img after (ap (λ (x : End ObjectHeader). x.answer) (sym q))
      ∙ ap (λ (x : End ObjectHeader). x.state) (power_cut (update_state g h state.Deleted) (mark_units g h) (gone_of h v.type) img (delete_stored img after (value_of f (update_state g h state.Deleted) img m a after left e d)))

  -- ---- how it reads then

  module _ (other : List ℕ) (m : Marked g h img other) where
    pub fine_then : check_of g (length other) ≡ 0
    fine_then = ap (check_of g) m.long ∙ fine

    shown-type : Shown g.granularity (get_or img p 0) (get_or img (p + finish_at g.granularity) 0) (get_or img (p + delete_at g.granularity) 0) v.type Valid
    shown-type = shown g.granularity (get_or img p 0) (get_or img (p + finish_at g.granularity) 0) (get_or img (p + delete_at g.granularity) 0) v.type Valid (told.state ∙ ap done v.state)

    at_mark : get_or other (p + delete_at g.granularity) 0 ≡ 0
    at_mark = let e : p + delete_at g.granularity ≡ mark_place g h = omega arith in ap (λ (x : ℕ). get_or other x 0) e ∙ m.mark

    state-then : state_seen g.granularity p other ≡ done (Allocated v.type Deleted)
    state-then =
        seen_object g.granularity p other v.type (get_or other (p + finish_at g.granularity) 0) 0 Deleted (m.elsewhere p (λ e. omega (arith, l)) ∙ shown-type.type_is) refl at_mark
        (mark_deleted g.granularity (get_or img (p + finish_at g.granularity) 0) (get_or img (p + delete_at g.granularity) 0) (get_or other (p + finish_at g.granularity) 0) shown-type.mark_is
        (λ c. m.elsewhere (p + finish_at g.granularity) (λ e. omega (arith, l)))
        (λ e. ap (λ (x : ℕ). get_or other (p + x) 0) e ∙ at_mark))

    size-then : size_seen g.granularity g.s p other ≡ h.size
    size-then =
        ap number (part_same (p + size_at g.granularity) g.s img other m.long (omega (arith, l, in_image)) (λ j a c. m.elsewhere j (λ e. omega (arith, l))))
        ∙ told.size_is

    pub info-then : info_at g h.location other ≡ done (found (gone_of h v.type))
    unfolding info_at
    info-then = rw (header_read g h.location other (Allocated v.type Deleted) h.size fine_then listed_block (omega (arith, l, at_object.fits)) state-then size-then)
