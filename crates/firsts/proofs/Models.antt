-- The descent where the pictures are those that some model draws.
use Rattle.std.proofs.Common.{◌≡◌, ℕ, ◌<◌, Bool, false, length, sym, ◌∙◌, arith}
use Rattle.descriptions.specs.Pictures.{Picture}
use Rattle.firsts.specs.Orders.{NoneOf}
use Rattle.firsts.specs.Leaders.{bit_of}
use Rattle.firsts.specs.Descents.{Same, NoneLow, Fixed}

-- models are of any type, and each has a bit at each place
module _ (A : Type 0) (bit : A → ℕ → Bool) where
  -- a model draws a picture: its bits are the picture's
  abbrev pub Draws : A → Picture → Type 0
  Draws α q = (k : ℕ) → k < length q → bit α k ≡ bit_of q k

  pub record SomeDraws (Model : A → Type 0) (q : Picture) : Type 0 where
    pub model : A
    pub is : Model model
    pub draws : Draws model q

  pub none_draws : (Model : A → Type 0) (n : ℕ) → ((α : A) → Model α → ⊥) → NoneOf n (SomeDraws Model)
  none_draws Model n none q l s = none s.model s.is

  pub none_draws_low : (Model : A → Type 0) (n at : ℕ) → at < n → ((α : A) → Model α → bit α at ≡ false → ⊥) → NoneLow (SomeDraws Model) n at
  none_draws_low Model n at h none q l low s = none s.model s.is (s.draws at (omega arith) ∙ low)

  pub same_draws : (Model Other : A → Type 0) (n : ℕ) → ((α : A) → Model α → Other α) → ((α : A) → Other α → Model α) → Same n (SomeDraws Model) (SomeDraws Other)
  same_draws Model Other n to back q l = (λ s. record { model = s.model; is = to s.model s.is; draws = s.draws }, λ s. record { model = s.model; is = back s.model s.is; draws = s.draws })

  -- where a bit is fixed in the models, it is in the pictures
  pub fixed_draws : (Model Next : A → Type 0) (n at : ℕ) (b : Bool) → at < n → ((α : A) → Next α → Model α × (bit α at ≡ b)) → ((α : A) → Model α → bit α at ≡ b → Next α) → Fixed (SomeDraws Model) n at b (SomeDraws Next)
  fixed_draws Model Next n at b h out back q l = (there, here)
    where
      there : SomeDraws Next q → SomeDraws Model q × (bit_of q at ≡ b)
      there s = let o = out s.model s.is in (record { model = s.model; is = o.0; draws = s.draws }, sym (s.draws at (omega arith)) ∙ o.1)

      here : SomeDraws Model q × (bit_of q at ≡ b) → SomeDraws Next q
      here s = record { model = s.0.model; is = back s.0.model s.0.is (s.0.draws at (omega arith) ∙ s.1); draws = s.0.draws }
