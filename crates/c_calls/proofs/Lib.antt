mod Counted
mod GoneBack
