mod Computed
mod Shaped
