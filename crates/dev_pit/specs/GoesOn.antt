-- What stays unchanged in a counter that counts on.
use Rattle.std.specs.Prelude.{◌≡◌}
use Rattle.dev_pit.specs.declared.counter.Counter.{Counter}

-- `GoesOn before after`: the counter counts as before, so its live count and OUT are the same at
-- any moment.
pub record GoesOn (before after : Counter) : Type 0 where
  pub count : after.count ≡ before.count
  pub mode : after.mode ≡ before.mode
  pub loaded_at : after.loaded_at ≡ before.loaded_at
