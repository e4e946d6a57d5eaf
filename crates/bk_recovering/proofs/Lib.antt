mod Recovered
