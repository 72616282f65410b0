-- Refusals along demands are at tokens, step by step.
use Rattle.std.proofs.Common.{◌≡◌, inl, inr, true, List, [], ◌∷◌, refl, sym, ◌∙◌, subst}
use Rattle.rhai_grammar.specs.Prelude.{Adds, Ahead, Apart, Captures, Demands, Literally, Met, Missed, Mode, Next}
use Rattle.rhai_grammar.specs.Prelude.{NoFault, Nothing, Point, Position, Refusal, Shape, Taken, Test, TestIn, Tok, Use}
use Rattle.rhai_grammar.specs.Prelude.{Uses}
use Rattle.rhai_grammar.specs.Prelude.{adding, apart, ask, capturing, code, next_at, past, text, with_captured, ◌▸◌}

-- ---- in which mode each token is requested

-- Demands whose first token is requested in a mode, and what follows them in another: what looks at the next token, and
-- takes none, does so in code mode.
abbrev pub Modes : Mode → Mode → Demands → Type 0
Modes m n Nothing = m ≡ n
Modes m n (Tok o i v ▸ ds) = (m ≡ o) × (p : Mode) × Modes p n ds
Modes m n (Ahead i v ▸ ds) = (m ≡ code) × Modes m n ds
Modes m n (Next v ▸ ds) = Modes m n ds
Modes m n (Uses v b u ▸ ds) = Modes m n ds
Modes m n (Test b e ▸ ds) = Modes m n ds
Modes m n (NoFault f ▸ ds) = Modes m n ds
Modes m n (TestIn b e ▸ ds) = Modes m n ds
Modes m n (Adds x ▸ ds) = Modes m n ds
Modes m n (Captures h e b u ▸ ds) = Modes m n ds
Modes m n (Shape b ▸ ds) = b ≡ true → Modes m n ds
Modes m n (Literally ds ▸ more) = (o : Mode) × Modes m o ds × Modes o n more
Modes m n (Apart ds number us ▸ more) = (o : Mode) × Modes m o ds × Modes o n more

-- ---- positions that are allowed

-- `G` says which positions these are: in the law, those of the tokens taken, and of the next one.
module _ (G : Position → Type 0) where
  -- These tokens stand at such positions.
  abbrev pub AllTaken : List Taken → Type 0
  AllTaken [] = Unit {0}
  AllTaken (k ∷ taken) = G k.item.at × AllTaken taken

  -- So do these uses.
  abbrev pub AllUses : List Use → Type 0
  AllUses [] = Unit {0}
  AllUses (u ∷ us) = G u.at × AllUses us

  -- So does the next token, if it is requested in code mode.
  abbrev pub At : Mode → Point → Type 0
  At code s = G (next_at code s).at
  At text s = Unit {0}

  -- All tokens that were taken up to a point stand there, and so does the next one.
  pub record Ends (m : Mode) (t : Point) : Type 0 where
    pub taken : AllTaken t.taken
    pub next : G (next_at m t).at

  -- the same, where the next one may be a text
  pub record Closed (m : Mode) (t : Point) : Type 0 where
    pub taken : AllTaken t.taken
    pub next : At m t

  -- the next token depends on what is left of the stream alone
  pub moved : (m : Mode) (r s : Point) → r.tokens ≡ s.tokens → At m r → At m s
  moved code r s e h = subst (λ x. G (ask code x).at) e h
  moved text r s e h = tt

  at_any : (m : Mode) (s : Point) → G (next_at m s).at → At m s
  at_any code s h = h
  at_any text s h = tt

  -- where demands stop at once
  at_end : (p n : Mode) (s t : Point) → n ≡ code → t ≡ s → Ends n t → At p s
  at_end code n s t e f h = subst (λ (u : Point). G (next_at code u).at) f (subst (λ r. G (next_at r t).at) e h.next)
  at_end text n s t e f h = tt

  -- What was taken before demands is among what was taken after them.
  pub taken_met : (ds : Demands) (s t : Point) → Met ds s t → AllTaken t.taken → AllTaken s.taken
  taken_met Nothing s t m h = subst (λ (p : Point). AllTaken p.taken) (sym m) h
  taken_met (Tok o i v ▸ ds) s t m h = (taken_met ds (past o s) t m.1 h).1
  taken_met (Ahead i v ▸ ds) s t m h = taken_met ds s t m.1 h
  taken_met (Next v ▸ ds) s t m h = taken_met ds s t m.1 h
  taken_met (Uses v b u ▸ ds) s t m h =
      taken_met ds (capturing (b s.library (next_at code s).lexeme) u s) t m.1 h
  taken_met (Test b e ▸ ds) s t m h = taken_met ds s t m.1 h
  taken_met (NoFault f ▸ ds) s t m h = taken_met ds s t m.1 h
  taken_met (TestIn b e ▸ ds) s t m h = taken_met ds s t m.1 h
  taken_met (Adds x ▸ ds) s t m h = taken_met ds (adding x s) t m.1 h
  taken_met (Captures g e b u ▸ ds) s t m h = taken_met ds (capturing (b s.library) u s) t m.1 h
  taken_met (Shape b ▸ ds) s t m h = taken_met ds s t m.1 h
  taken_met (Literally ds ▸ more) s t m h = taken_met ds s m.0 m.1 (taken_met more m.0 t m.2 h)
  taken_met (Apart ds number us ▸ more) s t m h =
      taken_met ds (apart s) m.0 m.1 (taken_met more (with_captured s.captured m.0) t m.3 h)

  same_taken : (s t : Point) → t ≡ s → AllTaken t.taken → AllTaken s.taken
  same_taken s t e h = subst (λ (p : Point). AllTaken p.taken) e h

  pub taken_missed : (ds : Demands) (s t : Point) (e : Refusal) (n : Mode) → Missed ds s e n t → AllTaken t.taken
      → AllTaken s.taken
  taken_missed Nothing s t e n m h = absurd m
  taken_missed (Tok o i v ▸ ds) s t e n (inl a) h = same_taken s t a.2 h
  taken_missed (Tok o i v ▸ ds) s t e n (inr b) h = (taken_missed ds (past o s) t e n b.1 h).1
  taken_missed (Ahead i v ▸ ds) s t e n (inl a) h = same_taken s t a.2 h
  taken_missed (Ahead i v ▸ ds) s t e n (inr b) h = taken_missed ds s t e n b.1 h
  taken_missed (Next v ▸ ds) s t e n (inl a) h = same_taken s t a.2 h
  taken_missed (Next v ▸ ds) s t e n (inr b) h = taken_missed ds s t e n b.1 h
  taken_missed (Uses v c u ▸ ds) s t e n (inl a) h = same_taken s t a.2 h
  taken_missed (Uses v c u ▸ ds) s t e n (inr b) h =
      taken_missed ds (capturing (c s.library (next_at code s).lexeme) u s) t e n b.1 h
  taken_missed (Test c d ▸ ds) s t e n (inl a) h = same_taken s t a.3 h
  taken_missed (Test c d ▸ ds) s t e n (inr b) h = taken_missed ds s t e n b.1 h
  taken_missed (NoFault f ▸ ds) s t e n (inl a) h = same_taken s t a.2 h
  taken_missed (NoFault f ▸ ds) s t e n (inr b) h = taken_missed ds s t e n b.1 h
  taken_missed (TestIn c d ▸ ds) s t e n (inl a) h = same_taken s t a.3 h
  taken_missed (TestIn c d ▸ ds) s t e n (inr b) h = taken_missed ds s t e n b.1 h
  taken_missed (Adds x ▸ ds) s t e n m h = taken_missed ds (adding x s) t e n m.1 h
  taken_missed (Captures g d c u ▸ ds) s t e n (inl a) h = same_taken s t a.3 h
  taken_missed (Captures g d c u ▸ ds) s t e n (inr b) h = taken_missed ds (capturing (c s.library) u s) t e n b.1 h
  taken_missed (Shape c ▸ ds) s t e n m h = taken_missed ds s t e n m.1 h
  taken_missed (Literally ds ▸ more) s t e n (inl a) h = taken_missed ds s t a.0 n a.1 h
  taken_missed (Literally ds ▸ more) s t e n (inr b) h = taken_met ds s b.0 b.1 (taken_missed more b.0 t e n b.2 h)
  taken_missed (Apart ds number us ▸ more) s t e n (inl a) h = taken_missed ds (apart s) t e n a h
  taken_missed (Apart ds number us ▸ more) s t e n (inr b) h =
      taken_met ds (apart s) b.0 b.1 (taken_missed more (with_captured s.captured b.0) t e n b.3 h)

  -- ---- the next token where demands begin

  pub next_met : (ds : Demands) (p q : Mode) (s t : Point) → Modes p q ds → Met ds s t → Closed q t → At p s
  next_met Nothing p q s t o m h = subst (λ r. At r s) (sym o) (subst (λ (u : Point). At q u) (sym m) h.next)
  next_met (Tok n i v ▸ ds) p q s t o m h =
      at_any p s (subst (λ r. G (next_at r s).at) (sym o.0) (taken_met ds (past n s) t m.1 h.taken).0)
  next_met (Ahead i v ▸ ds) p q s t o m h = next_met ds p q s t o.1 m.1 h
  next_met (Next v ▸ ds) p q s t o m h = next_met ds p q s t o m.1 h
  next_met (Uses v b u ▸ ds) p q s t o m h =
      let r = capturing (b s.library (next_at code s).lexeme) u s in moved p r s refl (next_met ds p q r t o m.1 h)
  next_met (Test b e ▸ ds) p q s t o m h = next_met ds p q s t o m.1 h
  next_met (NoFault f ▸ ds) p q s t o m h = next_met ds p q s t o m.1 h
  next_met (TestIn b e ▸ ds) p q s t o m h = next_met ds p q s t o m.1 h
  next_met (Adds x ▸ ds) p q s t o m h = moved p (adding x s) s refl (next_met ds p q (adding x s) t o m.1 h)
  next_met (Captures g e b u ▸ ds) p q s t o m h =
      let r = capturing (b s.library) u s in moved p r s refl (next_met ds p q r t o m.1 h)
  next_met (Shape b ▸ ds) p q s t o m h = next_met ds p q s t (o m.0) m.1 h
  next_met (Literally ds ▸ more) p q s t o m h = next_met ds p o.0 s m.0 o.1 m.1
      (record { taken = taken_met more m.0 t m.2 h.taken; next = next_met more o.0 q m.0 t o.2 m.2 h })
  next_met (Apart ds number us ▸ more) p q s t o m h =
      let r = with_captured s.captured m.0 in
      moved p (apart s) s refl (next_met ds p o.0 (apart s) m.0 o.1 m.1 (record {
        taken = taken_met more r t m.3 h.taken;
        next = moved o.0 r m.0 refl (next_met more o.0 q r t o.2 m.3 h);
      }))

  pub next_missed : (ds : Demands) (p q n : Mode) (s t : Point) (e : Refusal) → Modes p q ds → Missed ds s e n t
      → Ends n t → At p s
  next_missed Nothing p q n s t e o m h = absurd m
  next_missed (Tok r i v ▸ ds) p q n s t e o (inl a) h =
      let g = subst (λ x. G (next_at x t).at) (a.1 ∙ sym o.0) h.next in
      at_any p s (subst (λ (u : Point). G (next_at p u).at) a.2 g)
  next_missed (Tok r i v ▸ ds) p q n s t e o (inr b) h =
      at_any p s (subst (λ x. G (next_at x s).at) (sym o.0) (taken_missed ds (past r s) t e n b.1 h.taken).0)
  next_missed (Ahead i v ▸ ds) p q n s t e o (inl a) h = at_end p n s t a.1 a.2 h
  next_missed (Ahead i v ▸ ds) p q n s t e o (inr b) h = next_missed ds p q n s t e o.1 b.1 h
  next_missed (Next v ▸ ds) p q n s t e o (inl a) h = at_end p n s t a.1 a.2 h
  next_missed (Next v ▸ ds) p q n s t e o (inr b) h = next_missed ds p q n s t e o b.1 h
  next_missed (Uses v c u ▸ ds) p q n s t e o (inl a) h = at_end p n s t a.1 a.2 h
  next_missed (Uses v c u ▸ ds) p q n s t e o (inr b) h =
      let r = capturing (c s.library (next_at code s).lexeme) u s in
      moved p r s refl (next_missed ds p q n r t e o b.1 h)
  next_missed (Test c d ▸ ds) p q n s t e o (inl a) h = at_end p n s t a.2 a.3 h
  next_missed (Test c d ▸ ds) p q n s t e o (inr b) h = next_missed ds p q n s t e o b.1 h
  next_missed (NoFault f ▸ ds) p q n s t e o (inl a) h = at_end p n s t a.1 a.2 h
  next_missed (NoFault f ▸ ds) p q n s t e o (inr b) h = next_missed ds p q n s t e o b.1 h
  next_missed (TestIn c d ▸ ds) p q n s t e o (inl a) h = at_end p n s t a.2 a.3 h
  next_missed (TestIn c d ▸ ds) p q n s t e o (inr b) h = next_missed ds p q n s t e o b.1 h
  next_missed (Adds x ▸ ds) p q n s t e o m h =
      moved p (adding x s) s refl (next_missed ds p q n (adding x s) t e o m.1 h)
  next_missed (Captures g d c u ▸ ds) p q n s t e o (inl a) h = at_end p n s t a.2 a.3 h
  next_missed (Captures g d c u ▸ ds) p q n s t e o (inr b) h =
      let r = capturing (c s.library) u s in moved p r s refl (next_missed ds p q n r t e o b.1 h)
  next_missed (Shape c ▸ ds) p q n s t e o m h = next_missed ds p q n s t e (o m.0) m.1 h
  next_missed (Literally ds ▸ more) p q n s t e o (inl a) h = next_missed ds p o.0 n s t a.0 o.1 a.1 h
  next_missed (Literally ds ▸ more) p q n s t e o (inr b) h = next_met ds p o.0 s b.0 o.1 b.1
      (record { taken = taken_missed more b.0 t e n b.2 h.taken; next = next_missed more o.0 q n b.0 t e o.2 b.2 h })
  next_missed (Apart ds number us ▸ more) p q n s t e o (inl a) h =
      moved p (apart s) s refl (next_missed ds p o.0 n (apart s) t e o.1 a h)
  next_missed (Apart ds number us ▸ more) p q n s t e o (inr b) h =
      let r = with_captured s.captured b.0 in
      moved p (apart s) s refl (next_met ds p o.0 (apart s) b.0 o.1 b.1 (record {
        taken = taken_missed more r t e n b.3 h.taken;
        next = moved o.0 r b.0 refl (next_missed more o.0 q n r t e o.2 b.3 h);
      }))
